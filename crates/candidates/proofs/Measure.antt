-- A number that falls from a candidate to each later one: how much is left below the greatest
-- cells. A loop over candidates takes it for its measure.
use mathlib.Core.Path.{◌≡◌, refl, sym, ◌∙◌, ap}
use mathlib.Core.Logic.{inl, inr}
use mathlib.Core.List.{List, [], ◌∷◌}
use Prim.Native.Nat.{ℕ, ◌+◌, ◌-◌, ◌*◌, ◌≤◌, ◌<◌}
use native.Mathlib.Omega.{arith}
use lib.Arith.{digits_lt}
use lib.ListN.{length}
use Rattle.grammar.specs.declared.Cell.{Cell}
use Rattle.grammar.specs.Candidates.{Ranged, Cells, Candidate, CellBefore, CellsBefore}
use Rattle.candidates.specs.Terminals.{Among}

-- a cell as a number below 2048: 64 terminals, 3 steps, columns to 7
rank : Cell → ℕ
rank c = c.terminal * 32 + c.step * 8 + c.column

-- how many lists of ranks are as long as cs
pub span : List Cell → ℕ
span [] = 1
span (c ∷ cs) = 2048 * span cs

pub left : List Cell → ℕ
left [] = 0
left (c ∷ cs) = (2047 - rank c) * span cs + left cs

pub span_same : (cs ds : List Cell) → length cs ≡ length ds → span cs ≡ span ds
unfolding span
span_same [] [] e = refl
span_same [] (d ∷ ds) e = absurd (omega arith)
span_same (c ∷ cs) [] e = absurd (omega arith)
span_same (c ∷ cs) (d ∷ ds) e = ap (λ (x : ℕ). 2048 * x) (span_same cs ds (omega arith))

pub left_lt : (cs : List Cell) → left cs < span cs
unfolding left span
left_lt [] = omega arith
left_lt (c ∷ cs) =
    digits_lt {q = 2047 - rank c} {m = 2048} {r = left cs} {c = span cs} (omega arith) (left_lt cs)

module _ (s n : ℕ) (few : n ≤ 7) where
  rank_lt : (m : ℕ) (c d : Cell) → m ≤ 2 → Ranged (Among s) n m c → Ranged (Among s) n m d
      → CellBefore c d → (rank c < rank d) × (rank d < 2048)
  unfolding rank
  rank_lt m c d h k l (inl b) =
      (omega (arith, k.step, k.high, l.low), omega (arith, l.terminal.0, l.step, l.high))
  rank_lt m c d h k l (inr (inl b)) =
      (omega (arith, k.high, l.low), omega (arith, l.terminal.0, l.step, l.high))
  rank_lt m c d h k l (inr (inr b)) = (omega arith, omega (arith, l.terminal.0, l.step, l.high))

  falls : (m : ℕ) (cs ds : List Cell) → m ≤ 2 → length cs ≡ length ds → Cells (Among s) n m cs
      → Cells (Among s) n m ds → CellsBefore cs ds → left ds < left cs
  unfolding left
  falls m [] ds h e k l b = absurd b
  falls m (c ∷ cs) [] h e k l b = absurd b
  falls m (c ∷ cs) (d ∷ ds) h e k l (inl b) =
      let q : span cs ≡ span ds = span_same cs ds (omega arith) in
      let r = rank_lt m c d h k.0 l.0 b in
      let x : (2047 - rank d) * span ds + left ds < (2047 - rank c) * span ds = digits_lt
      {q = 2047 - rank d} {m = 2047 - rank c} {r = left ds} {c = span ds}
      (omega (arith, r.0, r.1)) (left_lt ds) in
      rw q (omega arith)
  falls m (c ∷ cs) (d ∷ ds) h e k l (inr b) =
      let q : span cs ≡ span ds = span_same cs ds (omega arith) in
      let x : left ds < left cs = falls 2 cs ds (omega arith) (omega arith) k.1 l.1 b.1 in
      rw (b.0, q) (omega arith)

  pub left_falls : {cs ds : List Cell} → Candidate (Among s) n cs → Candidate (Among s) n ds
      → CellsBefore cs ds → left ds < left cs
  left_falls {cs} {ds} k l b = falls 0 cs ds (omega arith)
      (k.arranged.size ∙ sym l.arranged.size) k.arranged.cells l.arranged.cells b
