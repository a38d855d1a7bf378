-- The loop over a candidate's cells: what the cells so far count, and what is left.
use mathlib.Core.Path.{◌≡◌, sym, ◌∙◌, ap, ap₂}
use mathlib.Core.List.{List, [], ◌∷◌}
use Prim.Native.Nat.{ℕ, ◌+◌, ◌-◌, ◌*◌, ◌≤◌, ◌<◌}
use native.Mathlib.Omega.{arith}
use native.Mathlib.Nat.{sub-zero}
use lib.ListN.{length}
use Rattle.grammar.specs.declared.Cell.{Cell}
use Rattle.grammar.specs.Candidates as Of
use Rattle.candidates.specs.declared.Candidate.{Candidate}
use Rattle.candidates.specs.Terminals.{Among}
use Rattle.candidates.specs.Arrays.{cell_at, cells}
use Rattle.candidates.specs.Windows.{Fits, Fit}
use Rattle.candidates.proofs.ListOrder.{candidate_fit}
use Rattle.candidates.proofs.Windows.{cells_turn, cells_end, cells_size}
use Rattle.tried_count.specs.declared.Row.{Row}
use Rattle.tried_count.specs.Ways.{ways, onward, whole_of, rank_from}
use Rattle.tried_count.specs.Rows.{at, Low, RowOf, members_below_of, cell_rank}
use Rattle.tried_count.proofs.Sums.{ways_same, lesser_same}
use Rattle.tried_count.proofs.Members.{members_le}
use Rattle.tried_count.proofs.Columns.{ways_small, lesser_small, share_small}

-- a cell's part of the rank, from a row that has the ways to go on
cell_same : (t n r m p s : ℕ) (row : Row) (d : Cell) → RowOf t n r row → d.column ≤ n
    → cell_rank (members_below_of s) (at row) n m p d ≡ cell_rank (members_below_of s)
    (onward t n r) n m p d
cell_same t n r m p s row d w h =
    ap₂ ◌+◌ (ap (λ (x : ℕ). members_below_of s d.terminal * x)
    (ways_same (at row) (onward t n r) n m p w.each))
    (lesser_same (at row) (onward t n r) n p d.step d.column h w.each)

pub cell_small : (n m p s : ℕ) (row : Row) (d : Cell) → Low row → n ≤ 7 → m ≤ 2
    → Fits (Among s) n m p d → cell_rank (members_below_of s) (at row) n m p d ≤ 5892695130112
cell_small n m p s row d l h u f =
    let x = share_small (members_below_of s d.terminal) (ways (at row) n m p)
    (omega (arith, members_le s d.terminal, f.ranged.terminal.0))
    (ways_small row n m p l h u) in
    let y = lesser_small row n p d.step d.column l h (omega (arith, f.ranged.step))
    f.ranged.high in
    omega (arith, x, y)

-- i cells are done: their part of the rank is in `total`
pub record Ranking (s t n : ℕ) (c : Candidate) (i m p total : ℕ) : Type 0 where
  pub upto : i ≤ n
  pub steps : m ≤ 2
  pub few : total ≤ i * 5892695130112
  pub fit : Fit (Among s) n m p (cells c i (n - i))
  pub is : total + rank_from (members_below_of s) t n m p (cells c i (n - i))
      ≡ rank_from (members_below_of s) t n 0 0 (cells c 0 n)

pub ranking_none : (s t n : ℕ) (c : Candidate) → Of.Candidate (Among s) n (cells c 0 n)
    → Ranking s t n c 0 0 0 0
ranking_none s t n c k = record {
  upto = omega arith;
  steps = omega arith;
  few = omega arith;
  fit = rw (sub-zero n) (candidate_fit (Among s) n (cells c 0 n) k);
  is = rw (sub-zero n) (omega arith);
}

-- the cell at i fits
pub ranking_fits : (s t n : ℕ) (c : Candidate) (i m p total : ℕ) (d : Cell) → i < n
    → d ≡ cell_at c i
    → Ranking s t n c i m p total → Fits (Among s) n m p d
ranking_fits s t n c i m p total d h e w =
    let f : Fit (Among s) n m p (cell_at c i ∷ cells c (i + 1) (n - (i + 1))) =
    rw (cells_turn n i c h) at w.fit in
    rw e f.0

pub ranking_more : (s t n : ℕ) (c : Candidate) (i m p total x : ℕ) (row : Row) (d : Cell) → n ≤ 7
    → i < n → d ≡ cell_at c i → RowOf t n (n - 1 - i) row
    → x ≡ cell_rank (members_below_of s) (at row) n m p d → Ranking s t n c i m p total
    → Ranking s t n c (i + 1) 2 d.column (total + x)
ranking_more s t n c i m p total x row d n7 h e w v q = record {
  upto = omega arith;
  steps = omega arith;
  few = few;
  fit = fit.1;
  is = is;
}
  where
    rest : List Cell
    rest = cells c (i + 1) (n - (i + 1))

    fit : Fits (Among s) n m p d × Fit (Among s) n 2 d.column (cells c (i + 1) (n - (i + 1)))
    fit = let f : Fit (Among s) n m p (cell_at c i ∷ cells c (i + 1) (n - (i + 1))) =
        rw (cells_turn n i c h) at q.fit in rw e f

    few : total + x ≤ (i + 1) * 5892695130112
    few = omega (arith, q.few, v, cell_small n m p s row d w.low n7 q.steps fit.0)

    left : length (cells c (i + 1) (n - (i + 1))) ≡ n - 1 - i
    left = let z : n - (i + 1) ≡ n - 1 - i = omega arith in cells_size c (i + 1) (n - (i + 1)) ∙ z

    here : x ≡ cell_rank (members_below_of s) (onward t n (length (cells c (i + 1) (n - (i + 1)))))
        n m p
        d
    here = v ∙ cell_same t n (n - 1 - i) m p s row d w fit.0.ranged.high
        ∙ ap (λ (r : ℕ). cell_rank (members_below_of s) (onward t n r) n m p d) (sym left)

    turn : rank_from (members_below_of s) t n m p (cells c i (n - i)) ≡ x
        + rank_from (members_below_of s) t n 2 d.column (cells c (i + 1) (n - (i + 1)))
    turn =
        ap (rank_from (members_below_of s) t n m p) (cells_turn n i c h)
        ∙ ap (λ (y : Cell). rank_from (members_below_of s) t n m p
        (y ∷ cells c (i + 1) (n - (i + 1))))
        (sym e)
        ∙ ap (λ (y : ℕ). y + rank_from (members_below_of s) t n 2 d.column
        (cells c (i + 1) (n - (i + 1)))) (sym here)

    is : total + x + rank_from (members_below_of s) t n 2 d.column (cells c (i + 1) (n - (i + 1)))
        ≡ rank_from (members_below_of s) t n 0 0 (cells c 0 n)
    is = omega (arith, q.is, turn)

pub ranking_end : (s t n : ℕ) (c : Candidate) (i m p total : ℕ) → n ≤ i
    → Ranking s t n c i m p total → total ≡ rank_from (members_below_of s) t n 0 0 (cells c 0 n)
ranking_end s t n c i m p total h w =
    let e : total + rank_from (members_below_of s) t n m p []
    ≡ rank_from (members_below_of s) t n 0 0 (cells c 0 n) = rw (cells_end n i c h) at w.is in
    omega (arith, e)

pub whole_is : (t n x : ℕ) (row : Row) → RowOf t n (n - 1) row → x ≡ ways (at row) n 0 0
    → t * x ≡ whole_of t n
unfolding whole_of
whole_is t n x row w e =
    ap (λ (y : ℕ). t * y) (e ∙ ways_same (at row) (onward t n (n - 1)) n 0 0 w.each)
