-- The table of the pairs that the search gives, and the words that begin with them.
use mathlib.Core.Path.{◌≡◌, refl, sym, ◌∙◌, subst, subst₂}
use mathlib.Core.List.{List}
use mathlib.Core.Logic.{◌⊎◌, inl, inr, ⊎_elim}
use Prim.Native.Nat.{ℕ, ◌+◌, ◌*◌, ◌/◌, ◌%◌, ◌^◌, ◌≤◌, ◌<◌}
use native.Mathlib.Omega.{arith}
use native.Mathlib.Decide.{dec_lt}
use native.Mathlib.Nat.{not-suc-le-zero}
use lib.ListN.{length, get_or}
use lib.Bits.{bit_or}
use Rattle.sets.proofs.Bits.{or_digit}
use Rattle.sets.specs.Sets.{In}
use Rattle.grammar.specs.declared.Cell.{Cell}
use Rattle.grammar.specs.Layout.{Word}
use Rattle.grammar.specs.Trees.{Rules}
use Rattle.grammar.specs.Candidates.{Candidate}
use Rattle.grammar.specs.SpanSheet.{pairs, pair_at}
use Rattle.spans.specs.Changes.{Kept, WrotePair}
use Rattle.spans.proofs.Places.{pair_at_same, pair_at_empty, pair_at_shorter}
use Rattle.spans.proofs.ChangeLaws.{past_same, past_then, kept_past}
use Rattle.candidates.specs.Terminals.{Among}
use Rattle.chart.specs.Leaves.{EmptyPair, Leaf, Allows, LeafAt, May}
use Rattle.chart.specs.Sheets.{Exact}
use Rattle.chart.proofs.ExactLaws.{empty_exact}
use Rattle.chart.proofs.FillLaws.{first_kept, second_kept}
use Rattle.pruning.specs.Refuting.{terminal_at_of}
use Rattle.pruning.specs.Tables.{Tabled, Gathered, United, Small, Slot, TakesPair}
use Rattle.pruning.specs.Tables.{LeavesPutTo}
use Rattle.pruning.specs.Tables.{LeavesPut}
use Rattle.pruning.proofs.CellLaws.{cells_terminal}

below_two : (n : ℕ) → n % 2 < 2
below_two n = omega arith

pub united_or : (a b : ℕ) → United a b (bit_or a b)
united_or a b = record {
  left = λ A h. record { digit = omega (arith, or_digit a b A, below_two (b / 2 ^ A), h.digit) };
  right = λ A h. record { digit = omega (arith, or_digit a b A, below_two (a / 2 ^ A), h.digit) };
}

-- ---- the table

upto : (x y : ℕ) → y < x + 1 → (y < x) ⊎ (y ≡ x)
upto x y h = go (dec_lt y x)
  where
    go : Dec (y < x) → (y < x) ⊎ (y ≡ x)
    go (yes k) = inl k
    go (no k) = inr (omega arith)

pub gathered_none : (g : Rules) (s : ℕ) (table : List ℕ) → Gathered g s 0 table table 0 0
gathered_none g s table = record {
  leaf = λ x h. absurd (not-suc-le-zero h);
  any = λ x h. absurd (not-suc-le-zero h);
  past = past_same 128 table;
}

module _ {g : Rules} {s x : ℕ} {table table₁ : List ℕ} {p q : ℕ}
    (f : Gathered g s x table table₁ p q) where
  -- a terminal that the set has not
  pub gathered_skip : (In s x → ⊥) → Gathered g s (x + 1) table table₁ p q
  gathered_skip out = record {
    leaf = λ y h m. ⊎_elim (λ k. f.leaf y k m) (λ k. absurd (out (subst (In s) k m))) (upto x y h);
    any = λ y h m. ⊎_elim (λ k. f.any y k m) (λ k. absurd (out (subst (In s) k m))) (upto x y h);
    past = f.past;
  }

  -- one that is worked out
  pub gathered_more : {table₂ : List ℕ} {a b p' q' : ℕ} → x < 64 → Leaf g x a b
      → WrotePair table₁ table₂ x a b → United p a p' → United q b q'
      → Gathered g s (x + 1) table table₂ p' q'
  gathered_more {table₂} {a} {b} {p'} {q'} low l w u v = record {
    leaf = λ y h m. ⊎_elim
        (λ k. subst₂ (Leaf g y) (sym (w.kept.rest (2 * y) (λ e. omega arith) (λ e. omega arith)))
        (sym (w.kept.rest (2 * y + 1) (λ e. omega arith) (λ e. omega arith))) (f.leaf y k m))
        (λ k. subst (λ (z : ℕ). Leaf g z (get_or table₂ (2 * z) 0) (get_or table₂ (2 * z + 1) 0))
        (sym k) (subst₂ (Leaf g x) (sym w.first) (sym w.second) l)) (upto x y h);
    any = λ y h m. ⊎_elim (λ k. kept (f.any y k m))
        (λ k. subst (λ (z : ℕ). Allows g z p' q') (sym k) new) (upto x y h);
    past = past_then f.past (record {
      long = w.kept.long;
      rest = λ i h. w.kept.rest i (λ e. omega arith) (λ e. omega arith);
    });
  }
    where
      kept : {y : ℕ} → Allows g y p q → Allows g y p' q'
      kept c = record {
        one = λ t e A d. u.left A (c.one t e A d);
        two = λ t e A d. v.left A
            (c.two t e A d);
      }

      new : Allows g x p' q'
      new = record {
        one = λ t e A d. u.right A ((l.one t e A).1 d);
        two = λ t e A d. v.right A
            ((l.two t e A).1 d);
      }

-- the last two pairs are written
pub tabled_of : {g : Rules} {s p q a b : ℕ} {t t₁ t₂ t₃ : List ℕ} → length t ≡ 132
    → Gathered g s 64 t t₁ p q → EmptyPair g a b → WrotePair t₁ t₂ 64 p q → WrotePair t₂ t₃ 65 a b
    → Tabled g s t₃
tabled_of {g} {s} {p} {q} {a} {b} {t} {t₁} {t₂} {t₃} e f x v w = record {
  long = w.kept.long ∙ v.kept.long ∙ f.past.long ∙ e;
  leaf = λ y m. subst₂ (Leaf g y) (sym (low (2 * y) (let z : y < 64 = m.0 in omega arith)))
      (sym (low (2 * y + 1) (let z : y < 64 = m.0 in omega arith))) (f.leaf y m.0 m.1);
  any = λ y m. subst₂ (Allows g y)
      (sym (w.kept.rest 128 (λ e. omega arith) (λ e. omega arith) ∙ v.first))
      (sym (w.kept.rest 129 (λ e. omega arith) (λ e. omega arith) ∙ v.second))
      (f.any y m.0 m.1);
  empty = subst₂ (EmptyPair g) (sym w.first) (sym w.second) x;
}
  where
    low : (i : ℕ) → i < 128 → get_or t₃ i 0 ≡ get_or t₁ i 0
    low i h = w.kept.rest i (λ e. omega arith) (λ e. omega arith)
        ∙ v.kept.rest i (λ e. omega arith) (λ e. omega arith)

-- ---- the words that begin with it

-- a candidate's terminals are those of the set
pub among_cells : {s n : ℕ} {cs : List Cell} → Candidate (Among s) n cs → (i : ℕ) → i < n
    → Among s (terminal_at_of cs i)
among_cells {s} {n} {cs} c i h =
    cells_terminal (Among s) n 0 cs c.arranged.cells i (omega (arith, c.arranged.size))

pub small_cells : {s n b : ℕ} {cs : List Cell} → b ≤ n → Candidate (Among s) n cs → Small cs b
small_cells h c = record { small = λ i l. (among_cells c i (omega arith)).0 }

-- a token has one slot
slot_same : {cs : List Cell} {b i r r' : ℕ} → Slot cs b i r → Slot cs b i r' → r ≡ r'
slot_same {cs} {b} {i} {r} {r'} x y = go (dec_lt i b)
  where
    go : Dec (i < b) → r ≡ r'
    go (yes h) = x.known h ∙ sym (y.known h)
    go (no h) = x.free (omega arith) ∙ sym (y.free (omega arith))

pub slot_low : {cs : List Cell} {b i r : ℕ} → Small cs b → Slot cs b i r → r ≤ 64
slot_low {cs} {b} {i} {r} s x = go (dec_lt i b)
  where
    go : Dec (i < b) → r ≤ 64
    go (yes h) = omega (arith, x.known h, s.small i h)
    go (no h) = omega (arith, x.free (omega arith))

-- another pair than that of the token at j
pub other_pair : (n j a b : ℕ) → j < n → a + b ≤ n → (b ≡ 1 → a ≡ j → ⊥)
    → pair_at n a b ≡ pair_at n j 1 → ⊥
other_pair n j a b h fit out e = let z = pair_at_same n a b j 1 fit (omega arith) e in
    ⊎_elim (λ y. omega (arith, z.0, y)) (λ y. out z.0 y) z.1

module _ {table : List ℕ} {cs : List Cell} {n b : ℕ} where
  pub laid_none : (ws : List ℕ) → LeavesPutTo table cs n b 0 ws ws
  laid_none ws =
      record { takes = λ k h. absurd (not-suc-le-zero h); past = past_same (2 * pairs n) ws }

  pub laid_more : {i r : ℕ} {ws ws₁ ws₂ : List ℕ} → i < n → Slot cs b i r
      → LeavesPutTo table cs n b i ws ws₁
      → WrotePair ws₁ ws₂ (pair_at n i 1) (get_or table (2 * r) 0)
      (get_or table (2 * r + 1) 0) → LeavesPutTo table cs n b (i + 1) ws ws₂
  laid_more {i} {r} {ws} {ws₁} {ws₂} h x f w = record {
    takes = λ k l q y. go k l q y (dec_lt k i);
    past = past_then f.past (kept_past n i 1 (omega arith) w.kept);
  }
    where
      go : (k : ℕ) → k < i + 1 → (q : ℕ) → Slot cs b k q → Dec (k < i) → TakesPair table ws₂ n k q
      go k l q y (yes m) =
          let o = other_pair n i k 1 h (omega arith) (λ u v. omega arith) in
          let z = f.takes k m q y in
          record {
            first = first_kept ws₁ ws₂ n (pair_at n i 1) w.kept k 1 o ∙ z.first;
            second = second_kept ws₁ ws₂ n (pair_at n i 1) w.kept k 1 o ∙ z.second;
          }
      go k l q y (no m) =
          let e : i ≡ k = omega arith in
          let z : r ≡ q = slot_same x (subst (λ (u : ℕ). Slot cs b u q) (sym e) y) in
          subst₂ (λ (u v : ℕ). TakesPair table ws₂ n u v) e z
          (record { first = w.first; second = w.second })

  -- the empty word's pair is the first
  pub laid_all : {ws ws₁ ws₂ : List ℕ} {i : ℕ} → n ≤ i → LeavesPutTo table cs n b i ws ws₁
      → WrotePair ws₁ ws₂ 0 (get_or table 130 0) (get_or table 131 0)
      → LeavesPut table cs n b ws ws₂
  laid_all {ws} {ws₁} {ws₂} {i} h f w = record {
    tokens = record {
      takes = λ k l r x.
          let z = f.takes k (omega arith) r x in
          record {
            first = first_kept ws₁ ws₂ n 0 w.kept k 1 (far k l) ∙ z.first;
            second = second_kept ws₁ ws₂ n 0 w.kept k 1 (far k l) ∙ z.second;
          };
      past = past_then f.past (kept_past n 0 0 (omega arith)
          (subst (Kept ws₁ ws₂) (sym (pair_at_empty n 0)) w.kept));
    };
    first = w.first;
    second = w.second;
  }
    where
      far : (k : ℕ) → k < n → pair_at n k 1 ≡ 0 → ⊥
      far k l e = omega (arith, pair_at_shorter n 0 0 k 1 (omega arith) (omega arith))

-- what a token that is laid has: the pair of its terminal, or one that allows for all of the set
module _ {g : Rules} {s n b : ℕ} {table : List ℕ} {cs : List Cell} {ws ws' : List ℕ}
    (t : Tabled g s table) (l : LeavesPut table cs n b ws ws') where
  pub laid_empty : (w : Word) → Exact g w n ws' 0
  laid_empty w = empty_exact t.empty l.first l.second w n

  pub laid_leaf : (i : ℕ) → i < b → i < n → Among s (terminal_at_of cs i)
      → LeafAt g n ws' i (terminal_at_of cs i)
  laid_leaf i h k m =
      let z = l.tokens.takes i k (terminal_at_of cs i)
      (record { known = λ x. refl; free = λ x. absurd (omega arith) }) in
      subst₂ (Leaf g (terminal_at_of cs i)) (sym z.first) (sym z.second)
      (t.leaf (terminal_at_of cs i) m)

  pub laid_free : (i : ℕ) → b ≤ i → i < n → (x : ℕ) → Among s x → May g n ws' i x
  laid_free i h k x m =
      let z = l.tokens.takes i k 64
      (record { known = λ y. absurd (omega arith); free = λ y. refl }) in
      subst₂ (Allows g x) (sym z.first) (sym z.second) (t.any x m)
