-- Solved spans stay so while tokens outside them are narrowed.
use mathlib.Core.Path.{◌≡◌, sym, ◌∙◌}
use mathlib.Core.List.{List}
use mathlib.Core.Logic.{◌⊎◌, inl, inr, ⊎_elim}
use Prim.Native.Nat.{ℕ, ◌+◌, ◌≤◌, ◌<◌}
use native.Mathlib.Omega.{arith}
use native.Mathlib.Decide.{ℕ_discrete}
use lib.ListN.{length}
use Rattle.grammar.specs.Trees.{Rules}
use Rattle.column_ranges.specs.Ranges.{Ranges}
use Rattle.column_ranges.specs.RangeSentences.{range}
use Rattle.range_marks.proofs.Unmoved.{marked_same}
use Rattle.range_charts.specs.RangeCharts.{SpanSolved, SolvedFrom, Solves}

pub solved_later : {ws : List ℕ} {g : Rules} {rs : Ranges} {n from a s : ℕ} → a ≤ s
    → SolvedFrom ws g rs n from a (n + 1) → SolvedFrom ws g rs n from s (n + 1)
solved_later {ws} {g} {rs} {n} {from} {a} {s} h f = record {
  each = λ i b two in-n p. f.each i b two in-n
      (go i b in-n (⊎_elim (λ q. omega arith) (λ q. omega (arith, q.0)) p) (ℕ_discrete i a));
  early = f.early;
}
  where
    go : (i b : ℕ) → i + b ≤ n → a ≤ i → Dec (i ≡ a) → (a < i) ⊎ ((i ≡ a) × (b < n + 1))
    go i b in-n l (yes e) = inr (e, omega arith)
    go i b in-n l (no d) = inl (omega arith)

-- all spans are solved
pub solved_all : {ws ws' : List ℕ} {g : Rules} {rs : Ranges} {n : ℕ} (from s : ℕ)
    → Solves ws ws' g rs n → SolvedFrom ws' g rs n from s (n + 1)
solved_all from s x = record {
  each = λ a b two in-n p. x.each a b two in-n;
  early = λ a b two in-n h. x.each a b two in-n;
}

-- spans without a token that is narrowed: the tokens before `from` and those from s on are as they
-- were
module _ {n from s : ℕ} (rs rs' : Ranges) (size : length rs ≡ n) (size' : length rs' ≡ n)
    (low : (i : ℕ) → i < from → range rs' i ≡ range rs i)
    (high : (i : ℕ) → s ≤ i → range rs' i ≡ range rs i) where
  span_unmoved : {ws : List ℕ} {g : Rules} (a b : ℕ) → 2 ≤ b → a + b ≤ n
      → ((i : ℕ) → a ≤ i → i < a + b → range rs' i ≡ range rs i) → SpanSolved ws g rs n a b
      → SpanSolved ws g rs' n a b
  span_unmoved a b two in-n same y = record {
    marks = y.marks;
    marked = marked_same rs rs' a b y.marks (size' ∙ sym size) (omega (arith, size))
        (omega arith) same y.marked;
    solved = y.solved;
  }

  pub solved_unmoved : {ws : List ℕ} {g : Rules} → SolvedFrom ws g rs n from s (n + 1)
      → SolvedFrom ws g rs' n from s (n + 1)
  solved_unmoved f = record {
    each = λ a b two in-n p.
        let l : s ≤ a = ⊎_elim (λ q. omega arith) (λ q. omega (arith, q.0)) p in
        span_unmoved a b two in-n (λ i u v. high i (omega arith)) (f.each a b two in-n p);
    early = λ a b two in-n h. span_unmoved a b two in-n (λ i u v. low i (omega arith))
        (f.early a b two in-n h);
  }
