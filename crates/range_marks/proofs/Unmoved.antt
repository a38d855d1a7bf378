-- The marks of a span go by its own tokens alone: they stay while others are narrowed.
use mathlib.Core.Path.{◌≡◌, sym, ap, ◌∙◌, subst, subst₂, subst₃}
use Prim.Native.Nat.{ℕ, ◌+◌, ◌-◌, ◌≤◌, ◌<◌}
use native.Mathlib.Omega.{arith}
use native.Mathlib.Decide.{ℕ_discrete}
use lib.ListN.{length}
use Rattle.grammar.specs.declared.UnaryMark.{UnaryMark}
use Rattle.grammar.specs.declared.BinaryMark.{BinaryMark}
use Rattle.grammar.specs.Layout.{Keeps, Pairs}
use Rattle.marks.specs.declared.SpanMarks.{SpanMarks}
use Rattle.marks.specs.Half.{token_at, MayKeep, MayPair}
use Rattle.column_ranges.specs.Ranges.{Ranges}
use Rattle.column_ranges.specs.RangeSentences.{range}
use Rattle.narrowing.specs.Narrowing.{low_token, high_token}
use Rattle.range_marks.specs.RangeMarks.{whole, Overlap, seen_from, RangeMarked}
use Rattle.range_marks.proofs.Stretching.{seen_long, seen_here, seen_there}

module _ (rs rs' : Ranges) (s len : ℕ) (size : length rs' ≡ length rs) (fit : s + len ≤ length rs)
    (pos : 0 < len)
    (same : (i : ℕ) → s ≤ i → i < s + len → range rs' i ≡ range rs i) where
  seen_same : (i : ℕ) → i < len → token_at (seen_from rs' s) (s + i)
      ≡ token_at (seen_from rs s) (s + i)
  seen_same i h = go (ℕ_discrete (s + i) s)
    where
      go : Dec (s + i ≡ s) → token_at (seen_from rs' s) (s + i) ≡ token_at (seen_from rs s) (s + i)
      go (yes e) = ap (token_at (seen_from rs' s)) e ∙ seen_here rs' s (omega arith)
          ∙ ap low_token (same s (omega arith) (omega arith)) ∙ sym (seen_here rs s (omega arith))
          ∙ ap (token_at (seen_from rs s)) (sym e)
      go (no d) = seen_there rs' s (s + i) (omega arith) d
          ∙ ap high_token (same (s + i) (omega arith) (omega arith))
          ∙ sym (seen_there rs s (s + i) (omega arith) d)

  first_same : token_at (seen_from rs' s) s ≡ token_at (seen_from rs s) s
  first_same = seen_here rs' s (omega arith) ∙ ap low_token (same s (omega arith) (omega arith))
      ∙ sym (seen_here rs s (omega arith))

  known_same : length (seen_from rs' s) ≡ length (seen_from rs s)
  known_same = seen_long rs' s ∙ size ∙ sym (seen_long rs s)

  keep_same : (m : UnaryMark) → MayKeep m (whole (seen_from rs s)) s len
      → MayKeep m (whole (seen_from rs' s)) s len
  keep_same m x = record {
    keeps = λ i h k. subst₂ (Keeps m) (sym first_same) (sym (seen_same i h))
        (x.keeps i h (omega (arith, known_same)));
  }

  pair_same : (m : BinaryMark) (l : ℕ) → 0 < l → l < len → MayPair m (whole (seen_from rs s)) s l 1
      → MayPair m (whole (seen_from rs' s)) s l 1
  pair_same m l a b x = record {
    pairs = λ y z k. subst₃ (Pairs m) (sym first_same) (sym before) (sym (seen_same l b))
        (x.pairs y z (omega (arith, known_same)));
  }
    where
      before : token_at (seen_from rs' s) (s + l - 1) ≡ token_at (seen_from rs s) (s + l - 1)
      before = let e : s + (l - 1) ≡ s + l - 1 = omega arith in
          subst (λ (j : ℕ). token_at (seen_from rs' s) j ≡ token_at (seen_from rs s) j) e
          (seen_same (l - 1) (omega arith))

pub marked_same : (rs rs' : Ranges) (s len : ℕ) (k : SpanMarks) → length rs' ≡ length rs
    → s + len ≤ length rs → 0 < len
    → ((i : ℕ) → s ≤ i → i < s + len → range rs' i ≡ range rs i) → RangeMarked rs s len k
    → RangeMarked rs' s len k
marked_same rs rs' s len k size fit pos same m = record {
  unary = λ u. (
    λ z. keep_same rs rs' s len size fit pos same u ((m.unary u).0 z),
    λ z. (m.unary u).1 (keep_same rs' rs s len (sym size) fit' pos back u z),
  );
  align = λ l a b. (
    λ z. subst₂ Overlap (sym (here l b).0) (sym (here l b).1) ((m.align l a b).0 z),
    λ z. (m.align l a b).1 (subst₂ Overlap (here l b).0 (here l b).1 z),
  );
  indent = λ l a b. (
    λ z. pair_same rs rs' s len size fit pos same BinaryMark.Indent l a b ((m.indent l a b).0 z),
    λ z. (m.indent l a b).1
        (pair_same rs' rs s len (sym size) fit' pos back BinaryMark.Indent l a b z),
  );
}
  where
    fit' : s + len ≤ length rs'
    fit' = omega (arith, size)

    back : (i : ℕ) → s ≤ i → i < s + len → range rs i ≡ range rs' i
    back i a b = sym (same i a b)

    here : (l : ℕ) → l < len
        → (range rs' s ≡ range rs s) × (range rs' (s + l) ≡ range rs (s + l))
    here l b = (same s (omega arith) (omega arith), same (s + l) (omega arith) (omega arith))
