-- The kept words: how they are made, what they say of the span sheet, and that they go on to say so
-- where a pair changes.
use mathlib.Core.Path.{◌≡◌, refl, sym, ap, ◌∙◌, subst}
use mathlib.Core.List.{List, []}
use mathlib.Core.Logic.{◌⊎◌, inl, inr, ⊎_elim, ◌↔◌}
use Prim.Native.Nat.{ℕ, ◌+◌, ◌-◌, ◌*◌, ◌≤◌, ◌<◌}
use native.Mathlib.Omega.{arith}
use native.Mathlib.Decide.{ℕ_discrete, dec_lt}
use lib.ListN.{length, get_or, take, drop, length-drop}
use lib.Seq.{get_or-take, get_or-drop, length-take-le, take_at}
use lib.Seq.{ext_get_or}
use borrow.Rule.Slice.PartMut.{put_mid, same_len_mid}
use Rattle.sets.specs.Sets.{In}
use Rattle.sets.proofs.Sets.{in_zero}
use Rattle.grammar.specs.Layout.{Word}
use Rattle.grammar.specs.declared.Rule.{Rule}
use Rattle.grammar.specs.declared.Clause.{Clause}
use Rattle.grammar.specs.declared.BinaryMark.{BinaryMark}
use Rattle.grammar.specs.Content.{SmallClause, SmallRule}
use Rattle.grammar.specs.Trees.{Rules, Derives, TwoTrees}
use Rattle.grammar.specs.SpanSheet.{pairs, pair_at, first_word, second_word}
use Rattle.spans.specs.Changes.{Cleared, Kept, WrotePair}
use Rattle.spans.proofs.Places.{pair_at_of, pair_at_empty, pair_at_same, pair_at_below}
use Rattle.tables.specs.Tables.{One, Two, rule}
use Rattle.cuts.specs.declared.Pair.{Pair}
use Rattle.cuts.specs.declared.BinaryRules.{BinaryRules}
use Rattle.cuts.specs.declared.Masks.{Masks}
use Rattle.cuts.specs.Cuts.{words_of_of, mask_of, Meets, Doubled, CutFits, CutBelow, CutStand}
use Rattle.cuts.specs.Cuts.{CutCounts}
use Rattle.cuts.specs.Cuts.{WordsSay, Ends, Starts, Row, Column}
use Rattle.cuts.proofs.CountLaws.{counts_view}
use Rattle.cuts.specs.Places.{IsBinary, PlacedAt, Placed}
use Rattle.cuts.proofs.Bits.{in_word}
use Rattle.cuts.proofs.MirrorLaws.{holds_as, holds_none}
use Rattle.chains.specs.Chains.{Chains}
use Rattle.chains.proofs.ChainLaws.{chains_for}
use Rattle.chart.specs.Leaves.{EmptyPair}
use Rattle.chart.specs.Sheets.{Exact}
use Rattle.filling.proofs.ClosingLaws.{empty_kept}
use Rattle.refilling.specs.Kept.{mark_number, ClauseWords, RuleWords, start_rows, end_columns}
use Rattle.refilling.specs.Kept.{rule_at_of, column_at, row_at, kept_for, chains_of}
use Rattle.refilling.specs.Kept.{Prepared, Mirror, Suits}
use Rattle.refilling.specs.Turning.{SetRule, SetRules, Wiped, HasBits, Turned}
use Rattle.refilling.specs.Turning.{TurnedRow, SameRules}

-- ---- rules as words

clause_as : (ws ws' : List ℕ) (p : ℕ) (c : Clause)
    → ((q : ℕ) → p ≤ q → q < p + 4 → get_or ws' q 0 ≡ get_or ws q 0) → ClauseWords ws p c
    → ClauseWords ws' p c
clause_as ws ws' p Clause.Empty f w = w
clause_as ws ws' p (Clause.Atom a b) f w = w
clause_as ws ws' p (Clause.Unary B m) f w = w
clause_as ws ws' p (Clause.Binary B C m) f w = (
  f (p + 1) (omega arith) (omega arith) ∙ w.0,
  f (p + 2) (omega arith) (omega arith) ∙ w.1,
  f (p + 3) (omega arith) (omega arith) ∙ w.2,
)

pub rule_as : {ws ws' : List ℕ} {p : ℕ} {r : Rule}
    → ((q : ℕ) → p ≤ q → q < p + 4 → get_or ws' q 0 ≡ get_or ws q 0) → RuleWords ws p r
    → RuleWords ws' p r
rule_as {ws} {ws'} {p} {r} f w = record {
  left = f p (omega arith) (omega arith) ∙ w.left;
  clause = clause_as ws ws' p r.clause f w.clause;
}

-- the words say which rule it is
pub rule_of : (ws : List ℕ) (p : ℕ) (r : Rule) (m : BinaryMark)
    → ((n : BinaryMark) → get_or ws (p + 3) 0 ≡ mark_number n → m ≡ n) → RuleWords ws p r
    → ◌≡◌ {A = Rule} (record {
      left = get_or ws p 0;
      clause = Clause.Binary (get_or ws (p + 1) 0) (get_or ws (p + 2) 0) m;
    }) r
rule_of ws p r m f w = go r.clause refl w.clause
  where
    go : (c : Clause) → r.clause ≡ c → ClauseWords ws p c → ◌≡◌ {A = Rule} (record {
      left = get_or ws p 0;
      clause = Clause.Binary (get_or ws (p + 1) 0) (get_or ws (p + 2) 0) m;
    }) r
    go Clause.Empty e q = absurd q
    go (Clause.Atom a b) e q = absurd q
    go (Clause.Unary B n) e q = absurd q
    go (Clause.Binary B C n) e q =
        let z : Clause.Binary (get_or ws (p + 1) 0) (get_or ws (p + 2) 0) m ≡ r.clause =
        ap (λ (x : ℕ). Clause.Binary x (get_or ws (p + 2) 0) m) q.0
        ∙ ap (λ (x : ℕ). Clause.Binary B x m) q.1 ∙ ap (Clause.Binary B C) (f n q.2)
        ∙ sym e in
        λ i. record { left = w.left i; clause = z i }

-- its numbers are below 64
pub record FewWords (ws : List ℕ) (p : ℕ) : Type 0 where
  pub left : get_or ws p 0 < 64
  pub first : get_or ws (p + 1) 0 < 64
  pub second : get_or ws (p + 2) 0 < 64

pub few_words : (ws : List ℕ) (p : ℕ) (r : Rule) → SmallRule r → RuleWords ws p r → FewWords ws p
few_words ws p r s w = go r.clause s.clause w.clause
  where
    go : (c : Clause) → SmallClause c → ClauseWords ws p c → FewWords ws p
    go Clause.Empty x q = absurd q
    go (Clause.Atom a b) x q = absurd q
    go (Clause.Unary B n) x q = absurd q
    go (Clause.Binary B C n) x q = record {
      left = omega (arith, w.left, s.left);
      first = omega (arith, q.0, x.0);
      second = omega (arith, q.1, x.1);
    }

pub mark_zero : (x : ℕ) → x ≡ 0 → (m : BinaryMark) → x ≡ mark_number m → BinaryMark.None ≡ m
mark_zero x e BinaryMark.None f = refl
mark_zero x e BinaryMark.Align f = absurd (omega arith)
mark_zero x e BinaryMark.Indent f = absurd (omega arith)

pub mark_one : (x : ℕ) → x ≡ 1 → (m : BinaryMark) → x ≡ mark_number m → BinaryMark.Align ≡ m
mark_one x e BinaryMark.None f = absurd (omega arith)
mark_one x e BinaryMark.Align f = refl
mark_one x e BinaryMark.Indent f = absurd (omega arith)

pub mark_two : (x : ℕ) → (x ≡ 0 → ⊥) → (x ≡ 1 → ⊥) → (m : BinaryMark) → x ≡ mark_number m
    → BinaryMark.Indent ≡ m
mark_two x d e BinaryMark.None f = absurd (d f)
mark_two x d e BinaryMark.Align f = absurd (e f)
mark_two x d e BinaryMark.Indent f = refl

-- the words of a B rule, written as two pairs
pub set_binary : {ws ws₁ ws₂ : List ℕ} {a b c d : ℕ} (i : ℕ) (r : Rule) (m : BinaryMark)
    → WrotePair ws ws₁ (257 + 2 * i) a b → WrotePair ws₁ ws₂ (258 + 2 * i) c d
    → r.left ≡ a → r.clause ≡ Clause.Binary b c m → d ≡ mark_number m
    → SetRule ws ws₂ (rule_at_of i) r
set_binary {ws} {ws₁} {ws₂} {a} {b} {c} {d} i r m f g l e k = record {
  size = g.kept.long ∙ f.kept.long;
  here = λ q. record {
    left = at (rule_at_of i) (2 * (257 + 2 * i)) (omega arith)
        ∙ g.kept.rest (2 * (257 + 2 * i)) (omega arith) (omega arith) ∙ f.first ∙ sym l;
    clause = subst (ClauseWords ws₂ (rule_at_of i)) (sym e) (
      at (rule_at_of i + 1) (2 * (257 + 2 * i) + 1) (omega arith)
          ∙ g.kept.rest (2 * (257 + 2 * i) + 1) (omega arith) (omega arith) ∙ f.second,
      at (rule_at_of i + 2) (2 * (258 + 2 * i)) (omega arith) ∙ g.first,
      at (rule_at_of i + 3) (2 * (258 + 2 * i) + 1) (omega arith) ∙ g.second ∙ k,
    );
  };
  else = λ q o. ⊎_elim
      (λ h. g.kept.rest q (omega arith) (omega arith)
      ∙ f.kept.rest q (omega arith) (omega arith))
      (λ h. g.kept.rest q (omega arith) (omega arith)
      ∙ f.kept.rest q (omega arith) (omega arith)) o;
}
  where
    at : (x y : ℕ) → x ≡ y → get_or ws₂ x 0 ≡ get_or ws₂ y 0
    at x y e = ap (λ (z : ℕ). get_or ws₂ z 0) e

-- no other rule is written
pub set_no : (ws : List ℕ) (p : ℕ) (r : Rule) (c : Clause) → r.clause ≡ c → (IsBinary c → ⊥)
    → SetRule ws ws p r
set_no ws p r c e n =
    record { size = refl; here = λ b. absurd (n (subst IsBinary e b)); else = λ q o. refl }

pub set_none : (g : Rules) (ws : List ℕ) → SetRules g ws ws 0
set_none g ws = record { size = refl; each = λ i h b. absurd (omega arith); else = λ q h. refl }

pub set_more : {g : Rules} {ws ws' ws'' : List ℕ} {m : ℕ} → SetRules g ws ws' m
    → SetRule ws' ws'' (rule_at_of m) (rule g m) → SetRules g ws ws'' (m + 1)
set_more {g} {ws} {ws'} {ws''} {m} s t = record {
  size = t.size ∙ s.size;
  each = λ i h b. go i h b (ℕ_discrete i m);
  else = λ q h. t.else q (inl (omega arith)) ∙ s.else q h;
}
  where
    go : (i : ℕ) → i < m + 1 → IsBinary (rule g i).clause → Dec (i ≡ m)
        → RuleWords ws'' (rule_at_of i) (rule g i)
    go i h b (yes e) = subst (λ (x : ℕ). RuleWords ws'' (rule_at_of x) (rule g x)) (sym e)
        (t.here (subst (λ (x : ℕ). IsBinary (rule g x).clause) e b))
    go i h b (no e) =
        rule_as (λ q x y. t.else q (inl (let z : i < m = omega arith in omega arith)))
        (s.each i (omega arith) b)

-- ---- the kept words are made

-- the table of chains is written in place: `new` in the middle of `old`
pub made : {g : Rules} {e : Pair} {b : BinaryRules} {kept kept' : List ℕ} (old new : List ℕ)
    → 1026 ≤ length old → length g ≤ 128 → EmptyPair g e.one e.two → Chains g e new
    → Placed g b
    → WrotePair (put_mid 0 512 old new) kept 256 b.low b.high
    → SetRules g kept kept' (length g) → Prepared g kept'
made {g} {e} {b} {kept} {kept'} old new size few right c p w s = record {
  empty = e;
  right = right;
  chains = subst (Chains g e) (sym same) c;
  low = subst (PlacedAt g 0 64) (sym (s.else 512 (omega arith) ∙ w.first)) p.low;
  high = subst (PlacedAt g 64 64) (sym (s.else 513 (omega arith) ∙ w.second)) p.high;
  rules = record {
    size = omega (arith, s.size, w.kept.long, whole);
    few = few;
    each = s.each;
  };
}
  where
    middle : length (take 512 old) ≡ 512
    middle = length-take-le 512 old (omega arith)

    whole : length (put_mid 0 512 old new) ≡ length old
    whole = same_len_mid 0 512 old new (c.size ∙ sym middle)

    words : (i : ℕ) → i < 512 → get_or kept' i 0 ≡ get_or (put_mid 0 512 old new) i 0
    words i h = s.else i (omega arith) ∙ w.kept.rest i (omega arith) (omega arith)

    long : length (take 512 kept') ≡ 512
    long = length-take-le 512 kept' (omega (arith, s.size, w.kept.long, whole))

    same : take 512 kept' ≡ new
    same = ext_get_or 0 (take 512 kept') new (long ∙ sym c.size)
        (λ i h. let k : i < 512 = omega (arith, long) in
        get_or-take 512 kept' i 0 k ∙ words i k
        ∙ sym (get_or-take 512 (put_mid 0 512 old new) i 0 k)
        ∙ ap (λ (x : List ℕ). get_or x i 0) (take_at new _ 512 c.size))

-- ---- what is kept from one filling to the next

-- the table of chains is as it was
same_chains : {kept kept' : List ℕ} → 1026 ≤ length kept → SameRules kept kept'
    → chains_of kept' ≡ chains_of kept
same_chains {kept} {kept'} h k = ext_get_or 0 (take 512 kept') (take 512 kept) (long ∙ sym was)
    (λ i l. let x : i < 512 = omega (arith, long) in
    get_or-take 512 kept' i 0 x ∙ k.first i (omega arith) ∙ sym (get_or-take 512 kept i 0 x))
  where
    was : length (take 512 kept) ≡ 512
    was = length-take-le 512 kept (omega arith)

    long : length (take 512 kept') ≡ 512
    long = length-take-le 512 kept' (omega (arith, k.size))

-- so is all that is made for the rules
pub prepared_same : {g : Rules} {kept kept' : List ℕ} → SameRules kept kept' → Prepared g kept
    → Prepared g kept'
prepared_same {g} {kept} {kept'} k p = record {
  empty = p.empty;
  right = p.right;
  chains = subst (Chains g p.empty) (sym (same_chains p.rules.size k)) p.chains;
  low = subst (PlacedAt g 0 64) (sym (k.first 512 (omega arith))) p.low;
  high = subst (PlacedAt g 64 64) (sym (k.first 513 (omega arith))) p.high;
  rules = record {
    size = omega (arith, k.size, p.rules.size);
    few = p.rules.few;
    each = λ i h b. rule_as (λ q x y. k.first q (omega (arith, p.rules.few)))
        (p.rules.each i h b);
  };
}

pub suits_same : {g : Rules} {ws ws' kept kept' : List ℕ} (n s len : ℕ) → 0 < len
    → 1026 ≤ length kept → Kept ws ws' (pair_at n s len) → SameRules kept kept' → Suits g ws kept
    → Suits g ws' kept'
suits_same {g} n s len pos h w k t = record {
  empty = t.empty;
  begins = empty_kept n s len pos w t.begins;
  chains = subst (Chains g t.empty) (sym (same_chains h k)) t.chains;
}

-- a sheet that is right for the empty word goes with the table of chains
pub suits : {g : Rules} {kept ws : List ℕ} {w : Word} {n to : ℕ} → Prepared g kept
    → Exact g w n ws to → Suits g ws kept
suits {g} {kept} {ws} {w} {n} {to} p x = record {
  empty = record { one = get_or ws 0 0; two = get_or ws 1 0 };
  begins = record { one = refl; two = refl };
  chains = chains_for
      (λ A. (λ i. (one A).1 ((p.right.one A).0 i), λ i. (p.right.one A).1 ((one A).0 i)))
      (λ A. (λ i. (two A).1 ((p.right.two A).0 i), λ i. (p.right.two A).1 ((two A).0 i)))
      p.chains;
}
  where
    one : (A : ℕ) → In (get_or ws 0 0) A ↔ Derives g A []
    one A = subst (λ (q : ℕ). In (get_or ws (2 * q) 0) A ↔ Derives g A []) (pair_at_empty n 0)
        (x.one 0 0 A (omega arith))

    two : (A : ℕ) → In (get_or ws 1 0) A ↔ TwoTrees g A []
    two A = subst (λ (q : ℕ). In (get_or ws (2 * q + 1) 0) A ↔ TwoTrees g A []) (pair_at_empty n 0)
        (x.two 0 0 A (omega arith))

-- ---- the rows of a start by themselves

part_word : (kept : List ℕ) (p i q : ℕ) → i < 128 → p + i ≡ q
    → get_or (take 128 (drop p kept)) i 0 ≡ get_or kept q 0
part_word kept p i q h e = get_or-take 128 (drop p kept) i 0 h ∙ get_or-drop p kept i 0
    ∙ ap (λ (x : ℕ). get_or kept x 0) e

pub rows_say : {ws kept : List ℕ} {n s : ℕ} → s < n → Mirror ws n kept
    → Row ws n s (n + 1) (start_rows kept s)
rows_say {ws} {kept} {n} {s} h m =
    let w = m.row s h in
    let p = row_at s in
    record {
      once = λ A c l.
          let e = part_word kept p (0 + 2 * A) (p + 2 * A) (omega arith) (omega arith) in
          (λ i. (w.once A c l).0 (in_word e i), λ i. in_word (sym e) ((w.once A c l).1 i));
      twice = λ A c l.
          let e = part_word kept p (0 + 2 * A + 1) (p + 2 * A + 1) (omega arith) (omega arith) in
          (λ i. (w.twice A c l).0 (in_word e i), λ i. in_word (sym e) ((w.twice A c l).1 i));
    }

-- ---- the column of an end, at the place that it has in one filling

from_there : (kept : List ℕ) (j x y : ℕ) → 1026 + 128 * j + x ≡ y
    → get_or (end_columns kept j) x 0 ≡ get_or kept y 0
from_there kept j x y e =
    get_or-drop (1026 + 128 * j) kept x 0 ∙ ap (λ (z : ℕ). get_or kept z 0) e

end_words : (kept : List ℕ) (j A : ℕ)
    → words_of_of (end_columns kept j) (128 * j) A ≡ words_of_of kept (column_at j) A
end_words kept j A = λ i. record { one = one i; two = two i }
  where
    one : get_or (end_columns kept j) (128 * j + 2 * A) 0 ≡ get_or kept (column_at j + 2 * A) 0
    one = from_there kept j (128 * j + 2 * A) (column_at j + 2 * A) (omega arith)

    two : get_or (end_columns kept j) (128 * j + 2 * A + 1) 0
        ≡ get_or kept (column_at j + 2 * A + 1) 0
    two = from_there kept j (128 * j + 2 * A + 1) (column_at j + 2 * A + 1) (omega arith)

pub column_says : {ws kept : List ℕ} {n j : ℕ} → j ≤ n → Mirror ws n kept
    → Column ws n 0 j (end_columns kept j)
column_says {ws} {kept} {n} {j} h m =
    let w = m.column j h in
    record {
      once = λ A c l.
          let e = ap (λ (x : Pair). x.one) (end_words kept j A) in
          (λ i. (w.once A c l).0 (in_word e i), λ i. in_word (sym e) ((w.once A c l).1 i));
      twice = λ A c l.
          let e = ap (λ (x : Pair). x.two) (end_words kept j A) in
          (λ i. (w.twice A c l).0 (in_word e i), λ i. in_word (sym e) ((w.twice A c l).1 i));
    }

-- what is counted there is counted here
module _ (rows kept : List ℕ) (j : ℕ) (w : Masks) where
  fits_there : (c : Clause) (x : ℕ) → CutFits rows kept (column_at j) w c x
      ≡ CutFits rows (end_columns kept j) (128 * j) w c x
  fits_there Clause.Empty x = refl
  fits_there (Clause.Atom a b) x = refl
  fits_there (Clause.Unary B m) x = refl
  fits_there (Clause.Binary B C m) x =
      ap (λ (y : Pair). Meets (words_of_of rows 0 B) y (mask_of w m) x) (sym (end_words kept j C))

  below_there : (c : Clause) (x : ℕ) → CutBelow rows kept (column_at j) c x
      ≡ CutBelow rows (end_columns kept j) (128 * j) c x
  below_there Clause.Empty x = refl
  below_there (Clause.Atom a b) x = refl
  below_there (Clause.Unary B m) x = refl
  below_there (Clause.Binary B C m) x =
      ap (λ (y : Pair). Doubled (words_of_of rows 0 B) y x) (sym (end_words kept j C))

  pub counts_there : (g : Rules) (upto : ℕ) (t : Pair)
      → CutCounts rows kept (column_at j) w g upto t
      → CutCounts rows (end_columns kept j) (128 * j) w g upto t
  counts_there g upto t = counts_view (CutStand rows kept (column_at j) w g upto)
      (CutStand rows (end_columns kept j) (128 * j) w g upto)
      (λ i c. CutBelow rows kept (column_at j) (rule g i).clause c)
      (λ i c. CutBelow rows (end_columns kept j) (128 * j) (rule g i).clause c)
      (λ c. c) (λ c. c)
      (λ A i c q. record {
        within = q.within;
        left = q.left;
        fits = subst (λ (X : Type 0). X) (fits_there (rule g i).clause c) q.fits;
      })
      (λ A i c q. record {
        within = q.within;
        left = q.left;
        fits = subst (λ (X : Type 0). X) (sym (fits_there (rule g i).clause c)) q.fits;
      })
      (λ A i c q b. subst (λ (X : Type 0). X) (below_there (rule g i).clause c) b)
      (λ A i c q b. subst (λ (X : Type 0). X) (sym (below_there (rule g i).clause c)) b)
      (λ A i a k b x y e. e) (λ A i a k b x y e. e) t

-- ---- a pair changes

-- rows and columns do not overlap
row_off : (a j x : ℕ) → row_at a ≤ x → x < row_at a + 128
    → (x < column_at j) ⊎ (column_at j + 128 ≤ x)
row_off a j x y z = go (dec_lt a j)
  where
    go : Dec (a < j) → (x < column_at j) ⊎ (column_at j + 128 ≤ x)
    go (yes l) = inl (omega arith)
    go (no l) = inr (omega arith)

column_off : (j a x : ℕ) → column_at j ≤ x → x < column_at j + 128
    → (x < row_at a) ⊎ (row_at a + 128 ≤ x)
column_off j a x y z = go (dec_lt a j)
  where
    go : Dec (a < j) → (x < row_at a) ⊎ (row_at a + 128 ≤ x)
    go (yes l) = inr (omega arith)
    go (no l) = inl (omega arith)

turned_else : {ws ws' : List ℕ} {p e : ℕ} {t : Pair} → TurnedRow ws ws' p t e → (x : ℕ)
    → (x < p) ⊎ (p + 128 ≤ x) → get_or ws' x 0 ≡ get_or ws x 0
turned_else {ws} {ws'} {p} {e} {t} r x o = go (dec_lt e 64)
  where
    go : Dec (e < 64) → get_or ws' x 0 ≡ get_or ws x 0
    go (yes l) = (r.inner l).else x o
    go (no l) = ap (λ (k : List ℕ). get_or k x 0) (r.last (omega arith))

-- words whose bit e is turned over go on to say what holds
says_turned : {words words' : List ℕ} {p e : ℕ} (t : Pair) (one two one' two' : ℕ → ℕ → Type 0)
    → ((c A : ℕ) → (c ≡ e → ⊥) → one c A ↔ one' c A) → ((A : ℕ) → In t.one A ↔ one' e A)
    → ((c A : ℕ) → (c ≡ e → ⊥) → two c A ↔ two' c A) → ((A : ℕ) → In t.two A ↔ two' e A)
    → Turned words words' p t e → WordsSay words p one two → WordsSay words' p one' two'
says_turned {words} {words'} {p} {e} t one two one' two' f x g y q h = record {
  once = λ A c l. on A c l (ℕ_discrete c e);
  twice = λ A c l. tw A c l (ℕ_discrete c e);
}
  where
    on : (A c : ℕ) → A < 64 → Dec (c ≡ e) → In (words_of_of words' p A).one c ↔ one' c A
    on A c l (yes z) = subst (λ (k : ℕ). In (words_of_of words' p A).one k ↔ one' k A) (sym z) (
      λ i. (x A).0 ((q.has.once A l).0 i),
      λ i. (q.has.once A l).1 ((x A).1 i),
    )
    on A c l (no z) = (
      λ i. (f c A z).0 ((h.once A c l).0 ((q.once A c l z).0 i)),
      λ i. (q.once A c l z).1 ((h.once A c l).1 ((f c A z).1 i)),
    )

    tw : (A c : ℕ) → A < 64 → Dec (c ≡ e) → In (words_of_of words' p A).two c ↔ two' c A
    tw A c l (yes z) = subst (λ (k : ℕ). In (words_of_of words' p A).two k ↔ two' k A) (sym z) (
      λ i. (y A).0 ((q.has.twice A l).0 i),
      λ i. (q.has.twice A l).1 ((y A).1 i),
    )
    tw A c l (no z) = (
      λ i. (g c A z).0 ((h.twice A c l).0 ((q.twice A c l z).0 i)),
      λ i. (q.twice A c l z).1 ((h.twice A c l).1 ((g c A z).1 i)),
    )

module _ {ws kept : List ℕ} {n : ℕ} (s len : ℕ) (few : n ≤ 64) (fit : s + len ≤ n) (pos : 0 < len)
    (m : Mirror ws n kept) where
  -- what row and column say of the span
  pub row_has : (o : Pair) → first_word ws n s len ≡ o.one → second_word ws n s len ≡ o.two
      → s + len < 64 → HasBits kept (row_at s) o (s + len)
  row_has o x y low =
      let w = m.row s (omega arith) in
      let z : s + len - s ≡ len = omega arith in
      let r : Ends s (n + 1) (s + len) =
      record { after = omega arith; before = omega arith; fits = omega arith } in
      record {
        once = λ A h. (
          λ i. in_word (ap (first_word ws n s) z ∙ x) ((w.once A (s + len) h).0 i).1,
          λ i. (w.once A (s + len) h).1 (r, in_word (sym (ap (first_word ws n s) z ∙ x)) i),
        );
        twice = λ A h. (
          λ i. in_word (ap (second_word ws n s) z ∙ y) ((w.twice A (s + len) h).0 i).1,
          λ i. (w.twice A (s + len) h).1 (r, in_word (sym (ap (second_word ws n s) z ∙ y)) i),
        );
      }

  pub column_has : {kept' : List ℕ} {t : Pair} (o : Pair)
      → TurnedRow kept kept' (row_at s) t (s + len)
      → first_word ws n s len ≡ o.one → second_word ws n s len ≡ o.two
      → HasBits kept' (column_at (s + len)) o s
  column_has {kept'} {t} o k x y =
      let w = m.column (s + len) fit in
      let z : s + len - s ≡ len = omega arith in
      let r : Starts 0 (s + len) s = record { from = omega arith; before = omega arith } in
      record {
        once = λ A h.
            let e = turned_else k (column_at (s + len) + 2 * A)
            (column_off (s + len) s _ (omega arith) (omega arith)) in (
              λ i. in_word (ap (first_word ws n s) z ∙ x) ((w.once A s h).0 (in_word e i)).1,
              λ i. in_word (sym e) ((w.once A s h).1
                  (r, in_word (sym (ap (first_word ws n s) z ∙ x)) i)),
            );
        twice = λ A h.
            let e = turned_else k (column_at (s + len) + 2 * A + 1)
            (column_off (s + len) s _ (omega arith) (omega arith)) in (
              λ i. in_word (ap (second_word ws n s) z ∙ y) ((w.twice A s h).0 (in_word e i)).1,
              λ i. in_word (sym e) ((w.twice A s h).1
                  (r, in_word (sym (ap (second_word ws n s) z ∙ y)) i)),
            );
      }

  module _ {ws' kept₁ kept₂ : List ℕ} (t : Pair)
      (w : WrotePair ws ws' (pair_at n s len) t.one t.two)
      (r : TurnedRow kept kept₁ (row_at s) t (s + len))
      (q : Turned kept₁ kept₂ (column_at (s + len)) t s) where
    other : (a b : ℕ) → a + b ≤ n → ((a ≡ s) × (b ≡ len) → ⊥) → pair_at n a b ≡ pair_at n s len → ⊥
    other a b f o e = let z = pair_at_same n a b s len f fit e in
        ⊎_elim (λ x. omega (arith, z.0)) (λ x. o (x, z.0)) z.1

    one_as : (a b : ℕ) → a + b ≤ n → ((a ≡ s) × (b ≡ len) → ⊥)
        → first_word ws' n a b ≡ first_word ws n a b
    one_as a b f o =
        w.kept.rest (2 * pair_at n a b) (λ e. other a b f o (omega arith)) (omega arith)

    two_as : (a b : ℕ) → a + b ≤ n → ((a ≡ s) × (b ≡ len) → ⊥)
        → second_word ws' n a b ≡ second_word ws n a b
    two_as a b f o =
        w.kept.rest (2 * pair_at n a b + 1) (omega arith) (λ e. other a b f o (omega arith))

    -- P is kept by all spans but the one that changes
    module _ (F F' : ℕ → ℕ → ℕ) (v : ℕ)
        (same : (a b : ℕ) → a + b ≤ n → ((a ≡ s) × (b ≡ len) → ⊥) → F' a b ≡ F a b)
        (mine : F' s len ≡ v) where
      row_on : (a c A : ℕ) → (c < 64 → (a ≡ s) × (c ≡ s + len) → ⊥)
          → (Ends a (n + 1) c × In (F a (c - a)) A) ↔ (Ends a (n + 1) c × In (F' a (c - a)) A)
      row_on a c A o = (
        λ z.
            let x = z.0.after in
            let y = z.0.before in
            let e = same a (c - a) (omega arith)
            (λ u. o z.0.fits (u.0, omega (arith, u.0, u.1))) in
            (z.0, in_word (sym e) z.1),
        λ z.
            let x = z.0.after in
            let y = z.0.before in
            let e = same a (c - a) (omega arith)
            (λ u. o z.0.fits (u.0, omega (arith, u.0, u.1))) in
            (z.0, in_word e z.1),
      )

      column_on : (j c A : ℕ) → j ≤ n → ((j ≡ s + len) × (c ≡ s) → ⊥)
          → (Starts 0 j c × In (F c (j - c)) A) ↔ (Starts 0 j c × In (F' c (j - c)) A)
      column_on j c A h o = (
        λ z.
            let y = z.0.before in
            let e = same c (j - c) (omega arith) (λ u. o (omega (arith, u.0, u.1), u.0)) in
            (z.0, in_word (sym e) z.1),
        λ z.
            let y = z.0.before in
            let e = same c (j - c) (omega arith) (λ u. o (omega (arith, u.0, u.1), u.0)) in
            (z.0, in_word e z.1),
      )

      back : F' s (s + len - s) ≡ v
      back = ap (F' s) (let z : s + len - s ≡ len = omega arith in z) ∙ mine

      row_here : s + len < 64 → (A : ℕ)
          → In v A ↔ (Ends s (n + 1) (s + len) × In (F' s (s + len - s)) A)
      row_here low A = (
        λ i. (
          record { after = omega arith; before = omega arith; fits = omega arith },
          in_word (sym back) i,
        ),
        λ z. in_word back z.1,
      )

      column_here : (A : ℕ) → In v A ↔ (Starts 0 (s + len) s × In (F' s (s + len - s)) A)
      column_here A = (
        λ i. (record { from = omega arith; before = omega arith }, in_word (sym back) i),
        λ z. in_word back z.1,
      )

    -- rows of another start, and columns of another end
    row_else : (a : ℕ) → (a ≡ s → ⊥) → (x : ℕ) → row_at a ≤ x → x < row_at a + 128
        → get_or kept₂ x 0 ≡ get_or kept x 0
    row_else a o x y z = q.else x (row_off a (s + len) x y z) ∙ turned_else r x (go (dec_lt a s))
      where
        go : Dec (a < s) → (x < row_at s) ⊎ (row_at s + 128 ≤ x)
        go (yes l) = inl (omega arith)
        go (no l) = inr (let u : s < a = omega arith in omega arith)

    column_else : (j : ℕ) → (j ≡ s + len → ⊥) → (x : ℕ) → column_at j ≤ x
        → x < column_at j + 128 → get_or kept₂ x 0 ≡ get_or kept x 0
    column_else j o x y z =
        q.else x (go (dec_lt j (s + len))) ∙ turned_else r x (column_off j s x y z)
      where
        go : Dec (j < s + len) → (x < column_at (s + len)) ⊎ (column_at (s + len) + 128 ≤ x)
        go (yes l) = inl (omega arith)
        go (no l) = inr (let u : s + len < j = omega arith in omega arith)

    row_kept : (a : ℕ) → a < n → (a ≡ s → ⊥) → WordsSay kept₂ (row_at a)
        (λ c A. Ends a (n + 1) c × One ws' n a (c - a) A)
        (λ c A. Ends a (n + 1) c × Two ws' n a (c - a) A)
    row_kept a h o =
        holds_as (λ c A. Ends a (n + 1) c × One ws n a (c - a) A)
        (λ c A. Ends a (n + 1) c × Two ws n a (c - a) A)
        (λ c A. Ends a (n + 1) c × One ws' n a (c - a) A)
        (λ c A. Ends a (n + 1) c × Two ws' n a (c - a) A) (row_else a o)
        (λ c A. row_on (first_word ws n) (first_word ws' n) t.one one_as w.first a c A
        (λ l u. o u.0))
        (λ c A. row_on (second_word ws n) (second_word ws' n) t.two two_as w.second a c A
        (λ l u. o u.0)) (m.row a h)

    column_kept : (j : ℕ) → j ≤ n → (j ≡ s + len → ⊥) → WordsSay kept₂ (column_at j)
        (λ c A. Starts 0 j c × One ws' n c (j - c) A) (λ c A. Starts 0 j c × Two ws' n c (j - c) A)
    column_kept j h o =
        holds_as (λ c A. Starts 0 j c × One ws n c (j - c) A)
        (λ c A. Starts 0 j c × Two ws n c (j - c) A)
        (λ c A. Starts 0 j c × One ws' n c (j - c) A)
        (λ c A. Starts 0 j c × Two ws' n c (j - c) A) (column_else j o)
        (λ c A. column_on (first_word ws n) (first_word ws' n) t.one one_as w.first j c A h
        (λ u. o u.0))
        (λ c A. column_on (second_word ws n) (second_word ws' n) t.two two_as w.second j c A h
        (λ u. o u.0)) (m.column j h)

    -- the rows of its start: turned over, or left alone where the span ends at 64
    row_turned : Dec (s + len < 64) → WordsSay kept₁ (row_at s)
        (λ c A. Ends s (n + 1) c × One ws' n s (c - s) A)
        (λ c A. Ends s (n + 1) c × Two ws' n s (c - s) A)
    row_turned (yes low) =
        says_turned t (λ c A. Ends s (n + 1) c × One ws n s (c - s) A)
        (λ c A. Ends s (n + 1) c × Two ws n s (c - s) A)
        (λ c A. Ends s (n + 1) c × One ws' n s (c - s) A)
        (λ c A. Ends s (n + 1) c × Two ws' n s (c - s) A)
        (λ c A o. row_on (first_word ws n) (first_word ws' n) t.one one_as w.first s c A
        (λ l u. o u.1))
        (row_here (first_word ws n) (first_word ws' n) t.one one_as w.first low)
        (λ c A o. row_on (second_word ws n) (second_word ws' n) t.two two_as w.second s c A
        (λ l u. o u.1))
        (row_here (second_word ws n) (second_word ws' n) t.two two_as w.second low)
        (r.inner low) (m.row s (omega arith))
    row_turned (no high) =
        holds_as (λ c A. Ends s (n + 1) c × One ws n s (c - s) A)
        (λ c A. Ends s (n + 1) c × Two ws n s (c - s) A)
        (λ c A. Ends s (n + 1) c × One ws' n s (c - s) A)
        (λ c A. Ends s (n + 1) c × Two ws' n s (c - s) A)
        (λ x y z. ap (λ (k : List ℕ). get_or k x 0) (r.last (omega arith)))
        (λ c A. row_on (first_word ws n) (first_word ws' n) t.one one_as w.first s c A
        (λ l u. high (omega (arith, u.1))))
        (λ c A. row_on (second_word ws n) (second_word ws' n) t.two two_as w.second s c A
        (λ l u. high (omega (arith, u.1)))) (m.row s (omega arith))

    -- their words the column's turn leaves alone
    row_put : WordsSay kept₂ (row_at s) (λ c A. Ends s (n + 1) c × One ws' n s (c - s) A)
        (λ c A. Ends s (n + 1) c × Two ws' n s (c - s) A)
    row_put =
        holds_as (λ c A. Ends s (n + 1) c × One ws' n s (c - s) A)
        (λ c A. Ends s (n + 1) c × Two ws' n s (c - s) A)
        (λ c A. Ends s (n + 1) c × One ws' n s (c - s) A)
        (λ c A. Ends s (n + 1) c × Two ws' n s (c - s) A)
        (λ x y z. q.else x (row_off s (s + len) x y z)) (λ c A. (λ i. i, λ i. i))
        (λ c A. (λ i. i, λ i. i)) (row_turned (dec_lt (s + len) 64))

    -- the columns of its end, whose words the row's turn left alone
    column_put : WordsSay kept₂ (column_at (s + len))
        (λ c A. Starts 0 (s + len) c × One ws' n c (s + len - c) A)
        (λ c A. Starts 0 (s + len) c × Two ws' n c (s + len - c) A)
    column_put =
        says_turned t (λ c A. Starts 0 (s + len) c × One ws n c (s + len - c) A)
        (λ c A. Starts 0 (s + len) c × Two ws n c (s + len - c) A)
        (λ c A. Starts 0 (s + len) c × One ws' n c (s + len - c) A)
        (λ c A. Starts 0 (s + len) c × Two ws' n c (s + len - c) A)
        (λ c A o. column_on (first_word ws n) (first_word ws' n) t.one one_as w.first (s + len)
        c A fit (λ u. o u.1))
        (column_here (first_word ws n) (first_word ws' n) t.one one_as w.first)
        (λ c A o. column_on (second_word ws n) (second_word ws' n) t.two two_as w.second
        (s + len) c A fit (λ u. o u.1))
        (column_here (second_word ws n) (second_word ws' n) t.two two_as w.second) q
        (holds_as (λ c A. Starts 0 (s + len) c × One ws n c (s + len - c) A)
        (λ c A. Starts 0 (s + len) c × Two ws n c (s + len - c) A)
        (λ c A. Starts 0 (s + len) c × One ws n c (s + len - c) A)
        (λ c A. Starts 0 (s + len) c × Two ws n c (s + len - c) A)
        (λ x y z. turned_else r x (column_off (s + len) s x y z)) (λ c A. (λ i. i, λ i. i))
        (λ c A. (λ i. i, λ i. i))
        (m.column (s + len) fit))

    pub mirror_put : Mirror ws' n kept₂
    mirror_put = record {
      long = omega (arith, m.long, r.size, q.size);
      row = λ a h. row a h (ℕ_discrete a s);
      column = λ j h. column j h (ℕ_discrete j (s + len));
    }
      where
        row : (a : ℕ) → a < n → Dec (a ≡ s) → WordsSay kept₂ (row_at a)
            (λ c A. Ends a (n + 1) c × One ws' n a (c - a) A)
            (λ c A. Ends a (n + 1) c × Two ws' n a (c - a) A)
        row a h (yes e) =
            subst (λ (x : ℕ). WordsSay kept₂ (row_at x)
            (λ c A. Ends x (n + 1) c × One ws' n x (c - x) A)
            (λ c A. Ends x (n + 1) c × Two ws' n x (c - x) A)) (sym e) row_put
        row a h (no e) = row_kept a h e

        column : (j : ℕ) → j ≤ n → Dec (j ≡ s + len) → WordsSay kept₂ (column_at j)
            (λ c A. Starts 0 j c × One ws' n c (j - c) A)
            (λ c A. Starts 0 j c × Two ws' n c (j - c) A)
        column j h (yes e) =
            subst (λ (x : ℕ). WordsSay kept₂ (column_at x)
            (λ c A. Starts 0 x c × One ws' n c (x - c) A)
            (λ c A. Starts 0 x c × Two ws' n c (x - c) A)) (sym e) column_put
        column j h (no e) = column_kept j h e

    -- the words before rows and columns are as they were
    pub put_same : SameRules kept kept₂
    put_same = record {
      size = q.size ∙ r.size;
      first = λ x h. q.else x (inl (omega arith)) ∙ turned_else r x (inl (omega arith));
    }

-- ---- the pair of the empty word changes: rows and columns do not speak of it

pub mirror_empty : {ws ws' kept : List ℕ} {n a b : ℕ} → WrotePair ws ws' 0 a b
    → Mirror ws n kept → Mirror ws' n kept
mirror_empty {ws} {ws'} {kept} {n} w m = record {
  long = m.long;
  row = λ s h. holds_as (λ c A. Ends s (n + 1) c × One ws n s (c - s) A)
      (λ c A. Ends s (n + 1) c × Two ws n s (c - s) A)
      (λ c A. Ends s (n + 1) c × One ws' n s (c - s) A)
      (λ c A. Ends s (n + 1) c × Two ws' n s (c - s) A) (λ q x y. refl)
      (λ c A. rows (first_word ws n) (first_word ws' n) one_as s c A)
      (λ c A. rows (second_word ws n) (second_word ws' n) two_as s c A) (m.row s h);
  column = λ j h. holds_as (λ c A. Starts 0 j c × One ws n c (j - c) A)
      (λ c A. Starts 0 j c × Two ws n c (j - c) A)
      (λ c A. Starts 0 j c × One ws' n c (j - c) A)
      (λ c A. Starts 0 j c × Two ws' n c (j - c) A) (λ q x y. refl)
      (λ c A. columns (first_word ws n) (first_word ws' n) one_as j c A)
      (λ c A. columns (second_word ws n) (second_word ws' n) two_as j c A) (m.column j h);
}
  where
    one_as : (a b : ℕ) → 0 < b → first_word ws' n a b ≡ first_word ws n a b
    one_as a b h = let z = pair_at_of n a b h in
        w.kept.rest (2 * pair_at n a b) (omega arith) (omega arith)

    two_as : (a b : ℕ) → 0 < b → second_word ws' n a b ≡ second_word ws n a b
    two_as a b h = let z = pair_at_of n a b h in
        w.kept.rest (2 * pair_at n a b + 1) (omega arith) (omega arith)

    rows : (F F' : ℕ → ℕ → ℕ) → ((a b : ℕ) → 0 < b → F' a b ≡ F a b) → (s c A : ℕ)
        → (Ends s (n + 1) c × In (F s (c - s)) A) ↔ (Ends s (n + 1) c × In (F' s (c - s)) A)
    rows F F' same s c A = (
      λ z. let x = z.0.after in (z.0, in_word (sym (same s (c - s) (omega arith))) z.1),
      λ z. let x = z.0.after in (z.0, in_word (same s (c - s) (omega arith)) z.1),
    )

    columns : (F F' : ℕ → ℕ → ℕ) → ((a b : ℕ) → 0 < b → F' a b ≡ F a b) → (j c A : ℕ)
        → (Starts 0 j c × In (F c (j - c)) A) ↔ (Starts 0 j c × In (F' c (j - c)) A)
    columns F F' same j c A = (
      λ z. let x = z.0.before in (z.0, in_word (sym (same c (j - c) (omega arith))) z.1),
      λ z. let x = z.0.before in (z.0, in_word (same c (j - c) (omega arith)) z.1),
    )

-- ---- words are wiped

-- ---- a sheet is opened: all its words are 0, and so are rows and columns

pub mirror_open : {ws ws' kept kept' : List ℕ} {n : ℕ} → kept_for n ≤ length kept
    → Cleared ws ws' (2 * pairs n) → Wiped kept kept' 1026 (256 * (n + 1)) → Mirror ws' n kept'
mirror_open {ws} {ws'} {kept} {kept'} {n} long c f = record {
  long = omega (arith, f.size);
  row = λ s h. holds_none (λ c A. Ends s (n + 1) c × One ws' n s (c - s) A)
      (λ c A. Ends s (n + 1) c × Two ws' n s (c - s) A)
      (λ q x y. f.zeros q (omega arith) (omega arith))
      (λ k A z. let x = z.0.after in let y = z.0.before in
      empty₁ s (k - s) A (omega arith) z.1)
      (λ k A z. let x = z.0.after in let y = z.0.before in
      empty₂ s (k - s) A (omega arith) z.1);
  column = λ j h. holds_none (λ c A. Starts 0 j c × One ws' n c (j - c) A)
      (λ c A. Starts 0 j c × Two ws' n c (j - c) A)
      (λ q x y. f.zeros q (omega arith) (omega arith))
      (λ k A z. let x = z.0.before in empty₁ k (j - k) A (omega arith) z.1)
      (λ k A z. let x = z.0.before in empty₂ k (j - k) A (omega arith) z.1);
}
  where
    empty₁ : (a b A : ℕ) → a + b ≤ n → One ws' n a b A → ⊥
    empty₁ a b A h i = let l = pair_at_below n a b h in
        in_zero A (in_word (c.zeros (2 * pair_at n a b) (omega arith)) i)

    empty₂ : (a b A : ℕ) → a + b ≤ n → Two ws' n a b A → ⊥
    empty₂ a b A h i = let l = pair_at_below n a b h in
        in_zero A (in_word (c.zeros (2 * pair_at n a b + 1) (omega arith)) i)

pub open_same : {kept kept' : List ℕ} {m : ℕ} → Wiped kept kept' 1026 m → SameRules kept kept'
open_same f = record { size = f.size; first = λ q h. f.else q (inl (omega arith)) }

-- a part of 128 words has them
pub part_long : (kept : List ℕ) (p m : ℕ) → m ≡ 128 → p + 128 ≤ length kept
    → 128 ≤ length (take m (drop p kept))
part_long kept p m e h =
    omega (arith, length-take-le m (drop p kept) (omega (arith, length-drop p kept)))
