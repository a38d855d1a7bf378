-- The pairs of the empty word and of single tokens: the tries over them, as over the sheet of a
-- word that has no more.
use mathlib.Core.Path.{◌≡◌, refl, sym, subst, subst₂}
use mathlib.Core.List.{List, [], ◌∷◌}
use mathlib.Core.Logic.{◌↔◌, ⊎_elim}
use Prim.Native.Nat.{ℕ, zero, suc, ◌+◌, ◌*◌, ◌≤◌, ◌<◌}
use native.Mathlib.Omega.{arith}
use native.Mathlib.Decide.{dec_lt, ℕ_discrete}
use lib.ListN.{length, get_or}
use Rattle.grammar.specs.Layout.{Word}
use Rattle.grammar.specs.declared.Column.{Column}
use Rattle.sets.specs.Sets.{In}
use Rattle.grammar.specs.Trees.{Rules, Derives, TwoTrees}
use Rattle.grammar.specs.SpanSheet.{pairs, spans, pair_at}
use Rattle.marks.specs.Half.{Half, token_at}
use Rattle.marks.specs.Marked.{alone}
use Rattle.marks.proofs.Joining.{carried_first, carried_all, no_tokens}
use Rattle.spans.specs.Changes.{Past, Kept, WrotePair}
use Rattle.spans.proofs.Places.{pair_at_same, pair_at_empty}
use Rattle.spans.proofs.ChangeLaws.{past_same, past_then, kept_past}
use Rattle.joins.specs.declared.Tally.{Tally}
use Rattle.tables.specs.Tables.{One, Two}
use Rattle.joins.specs.Passes.{Leaves, Saturated}
use Rattle.chart.specs.Leaves.{EmptyPair, Leaf, LeafAt}
use Rattle.tables.specs.Settled.{Settled}
use Rattle.chart.specs.Filling.{Closed}
use Rattle.chart.specs.Sheets.{Exact, Begun}
use Rattle.chart.proofs.FillLaws.{closed, settled_empty, given_same, first_kept, second_kept}
use Rattle.chart.proofs.ExactLaws.{empty_exact, exact_words}
use Rattle.chart.proofs.LeafLaws.{exact_leaf}
use Rattle.chart.proofs.SheetLaws.{exact_settled, charted}
use Rattle.grammar.specs.Distinct.{Distinct}

-- ---- the empty word

-- the words of its sheet
module _ {g : Rules} {b t : Tally} {col : Column} (distinct : Distinct g)
    (l : Leaves (alone 0 col) 0 g (length g) b)
    (sat : Saturated 0 0 (alone 0 col) 0 g b t) where
  before : List ℕ
  before = 0 ∷ 0 ∷ []

  after : List ℕ
  after = t.one ∷ t.two ∷ []

  nothing : Half
  nothing = record { word = []; known = 0 }

  wrote : WrotePair before after 0 t.one t.two
  unfolding before after
  wrote = record { kept = record { long = refl; rest = rest }; first = refl; second = refl }
    where
      rest : (q : ℕ) → (q ≡ 0 → ⊥) → (q ≡ 1 → ⊥)
          → get_or (t.one ∷ t.two ∷ []) q 0 ≡ get_or (0 ∷ 0 ∷ []) q 0
      rest zero x y = absurd (x refl)
      rest (suc zero) x y = absurd (y refl)
      rest (suc (suc q)) x y = refl

  here : Closed before after g nothing 0 0 0
  unfolding before nothing
  here = closed before after g nothing 0 0 0 (alone 0 col) b t distinct (omega arith) (omega arith)
      (no_tokens nothing 0 0 0 col refl) (record { parts = λ c d x y z. absurd (omega arith) })
      (omega arith) l sat
      (subst (λ (p : ℕ). WrotePair before after p t.one t.two) (sym (pair_at_empty 0 0))
      wrote)

  pub empty_found : EmptyPair g t.one t.two
  unfolding after nothing
  empty_found =
      let x = (charted after after g nothing 0 refl (omega arith) 0 (record {
        filled = record {
          done = λ c d q p. subst₂ (Settled (One after 0) (Two after 0) g nothing)
              (let z : 0 ≡ c = omega arith in z) (let z : 0 ≡ d = omega arith in z) here.settled;
        };
        given = given_same after 0;
        past = past_same (2 * pairs 0) after;
      })).exact in
      record {
        one = λ A. subst (λ (i : ℕ). In (get_or after (2 * i) 0) A ↔ Derives g A [])
            (pair_at_empty 0 0) (x.one 0 0 A (omega arith));
        two = λ A. subst (λ (i : ℕ). In (get_or after (2 * i + 1) 0) A ↔ TwoTrees g A [])
            (pair_at_empty 0 0) (x.two 0 0 A (omega arith));
      }

-- ---- a single token

-- the pair of the one token is the second
second_pair : pair_at 1 0 1 ≡ 1
unfolding pair_at spans
second_pair = refl

module _ {g : Rules} {x p q : ℕ} {b t : Tally} {col : Column} (distinct : Distinct g)
    (e : EmptyPair g p q) (l : Leaves (alone x col) 1 g (length g) b)
    (sat : Saturated p q (alone x col) 1 g b t) where
  unread : List ℕ
  unread = p ∷ q ∷ 0 ∷ 0 ∷ []

  read : List ℕ
  read = p ∷ q ∷ t.one ∷ t.two ∷ []

  one_token : Word
  one_token = record {
    terminal = x;
    line = record { 0 = 0 };
    column = col;
    width = record { 0 = 0 };
  } ∷ []

  single : Half
  single = record { word = one_token; known = 1 }

  wrote_leaf : WrotePair unread read 1 t.one t.two
  unfolding unread read
  wrote_leaf = record { kept = record { long = refl; rest = rest }; first = refl; second = refl }
    where
      rest : (i : ℕ) → (i ≡ 2 → ⊥) → (i ≡ 3 → ⊥)
          → get_or (p ∷ q ∷ t.one ∷ t.two ∷ []) i 0 ≡ get_or (p ∷ q ∷ 0 ∷ 0 ∷ []) i 0
      rest zero y z = refl
      rest (suc zero) y z = refl
      rest (suc (suc zero)) y z = absurd (y refl)
      rest (suc (suc (suc zero))) y z = absurd (z refl)
      rest (suc (suc (suc (suc i)))) y z = refl

  -- the empty word is settled wherever it stands
  nulls : (ws : List ℕ) → get_or ws 0 0 ≡ p → get_or ws 1 0 ≡ q → (a : ℕ)
      → Settled (One ws 1) (Two ws 1) g single a 0
  unfolding single one_token
  nulls ws y z a = settled_empty ws g single 1 a
      (exact_settled ws g single 1 0 distinct (omega arith) (omega arith)
      (empty_exact e y z one_token 1) 0 0 (omega arith))

  leaf_here : Closed unread read g single 1 0 1
  unfolding unread single one_token
  leaf_here =
      closed unread read g single 1 0 1 (alone x col) b t distinct (omega arith) (omega arith)
      (carried_all single 0 1 (alone x col) (carried_first single 0 x col refl refl))
      (record {
        parts = λ c d y z v. subst (Settled (One unread 1) (Two unread 1) g single c)
            (let u : 0 ≡ d = omega arith in u) (nulls unread refl refl c);
      })
      (omega arith) l sat
      (subst (λ (i : ℕ). WrotePair unread read i t.one t.two) (sym second_pair)
      wrote_leaf)

  pub leaf_found : Leaf g x t.one t.two
  unfolding read single one_token
  leaf_found =
      let y = (charted read read g single 1 refl (omega arith) 0 (record {
        filled = record { done = λ c d q p. go c d q (ℕ_discrete d 0) };
        given = given_same read 1;
        past = past_same (2 * pairs 1) read;
      })).exact in
      subst (λ (i : ℕ). Leaf g x (get_or read (2 * i) 0) (get_or read (2 * i + 1) 0)) second_pair
      (exact_leaf 0 (omega arith) (omega arith) y)
    where
      go : (c d : ℕ) → c + d ≤ 1 → Dec (d ≡ 0) → Settled (One read 1) (Two read 1) g single c d
      go c d f (yes z) =
          subst (Settled (One read 1) (Two read 1) g single c) (sym z) (nulls read refl refl c)
      go c d f (no z) = subst₂ (Settled (One read 1) (Two read 1) g single)
          (let u : 0 ≡ c = omega arith in u) (let u : 1 ≡ d = omega arith in u) leaf_here.settled

-- ---- written, one after the other

-- the pairs of the empty word and of the first i tokens
pub record PairsWritten (ws ws' : List ℕ) (g : Rules) (w : Word) (n i : ℕ) : Type 0 where
  pub empty : Exact g w n ws' 0
  pub leaves : (j : ℕ) → j < i → LeafAt g n ws' j (token_at w j).terminal
  pub past : Past (2 * pairs n) ws ws'

pub written_none : {ws ws' : List ℕ} {g : Rules} {p q : ℕ} (w : Word) (n : ℕ) → EmptyPair g p q
    → WrotePair ws ws' 0 p q → PairsWritten ws' ws' g w n 0
written_none {ws' = ws'} w n e r = record {
  empty = empty_exact e r.first r.second w n;
  leaves = λ j l. absurd (omega arith);
  past =
      past_same (2 * pairs n) ws';
}

pub written_more : {ws ws₁ ws₂ : List ℕ} {g : Rules} {w : Word} {n i p q : ℕ} → i < n
    → PairsWritten ws ws₁ g w n i → Leaf g (token_at w i).terminal p q
    → WrotePair ws₁ ws₂ (pair_at n i 1) p q → PairsWritten ws ws₂ g w n (i + 1)
written_more {ws} {ws₁} {ws₂} {g} {w} {n} {i} {p} {q} h r l v = record {
  empty = exact_words ws₂ (λ s len fit. (
    first_kept ws₁ ws₂ n (pair_at n i 1) v.kept s len
        (other s len (omega arith) (omega arith)),
    second_kept ws₁ ws₂ n (pair_at n i 1) v.kept
        s len (other s len (omega arith) (omega arith)),
  )) r.empty;
  leaves = λ j k. go j k (dec_lt j i);
  past = past_then r.past (kept_past n i 1 (omega arith) v.kept);
}
  where
    -- another pair than that of the token at i
    other : (a b : ℕ) → a + b ≤ n → b + a < 1 + i → pair_at n a b ≡ pair_at n i 1 → ⊥
    other a b f k y = let z = pair_at_same n a b i 1 f (omega arith) y in
        ⊎_elim (λ u. omega (arith, z.0, u)) (λ u. omega (arith, z.0, u)) z.1

    go : (j : ℕ) → j < i + 1 → Dec (j < i) → LeafAt g n ws₂ j (token_at w j).terminal
    go j k (yes y) = subst₂ (Leaf g (token_at w j).terminal)
        (sym (first_kept ws₁ ws₂ n (pair_at n i 1) v.kept j 1
        (other j 1 (omega arith) (omega arith))))
        (sym (second_kept ws₁ ws₂ n (pair_at n i 1) v.kept j 1
        (other j 1 (omega arith) (omega arith)))) (r.leaves j y)
    go j k (no y) = subst (λ (z : ℕ). LeafAt g n ws₂ z (token_at w z).terminal)
        (let u : i ≡ j = omega arith in u)
        (subst₂ (Leaf g (token_at w i).terminal) (sym v.first) (sym v.second) l)

pub written_all : {ws ws₁ ws₂ : List ℕ} {g : Rules} {w : Word} {n i : ℕ} → n ≤ i → Kept ws ws₁ 0
    → PairsWritten ws₁ ws₂ g w n i → Begun ws ws₂ g w n
written_all {ws} {ws₁} {n = n} h k r = record {
  empty = r.empty;
  leaves = λ j l. r.leaves j (omega arith);
  past = past_then
      (kept_past n 0 0 (omega arith) (subst (Kept ws ws₁) (sym (pair_at_empty n 0)) k)) r.past;
}
