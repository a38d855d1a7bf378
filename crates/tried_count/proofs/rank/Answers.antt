use native.Mathlib.Omega.{arith}
use Rattle.candidates.specs.Terminals.{Among}
use Rattle.candidates.specs.Windows.{Fits}
use Rattle.tried_count.proofs.Ranking.{ranking_none, ranking_fits, ranking_more}
use Rattle.tried_count.proofs.Ranking.{ranking_end, cell_small}
use Rattle.tried_count.proofs.rank.Lts
use Rattle.tried_count.proofs.rank.Reads
use Rattle.tried_count.proofs.rank.Tie
use Rattle.tried_count.proofs.rank.Goals as goal

pub loop-i-init : goal.loop-i-init
loop-i-init c = ranking_none _ _ _ _ c.requires.candidate

pub overflow_sub-n : goal.overflow_sub-n
overflow_sub-n c = c.requires.fair.low

pub overflow_sub-n-in-loop-i : goal.overflow_sub-n-in-loop-i
overflow_sub-n-in-loop-i c = omega (arith, c.loop-i-test.true)

pub row_of-row-requires : goal.row_of-row-requires
row_of-row-requires c = (c.requires.fair, omega (arith, c.requires.fair.low))

pub cell-d-requires : goal.cell-d-requires
cell-d-requires c = omega (arith, c.loop-i-test.true, c.requires.fair.high)

-- the cell fits
fits : (c : Lts.After-cell Tie.the-claims Reads.Pre Reads.Post goal.the-invariant-loop-i
    goal.the-decreases-loop-i Tie.handed_clauses)
    → Fits (Among c.args.set) c.args.n c.loop-i.m c.loop-i.p c.cell-d.result
fits c = ranking_fits _ _ _ _ _ _ _ _ _ c.loop-i-test.true c.cell-d.ensures
    c.loop-i.invariant

pub cell_rank-total-requires : goal.cell_rank-total-requires
cell_rank-total-requires c =
    let f = fits c in record {
      n_bound = (c.requires.fair.high, c.loop-i.invariant.steps, c.row_of-row.ensures.low);
      terminal_bound = (
        f.ranged.terminal.0,
        omega (arith, f.ranged.step, c.loop-i.invariant.steps),
        f.ranged.low,
        f.ranged.high,
      );
    }

pub overflow_add-total : goal.overflow_add-total
overflow_add-total c =
    omega (
      arith,
      c.loop-i.invariant.few,
      c.loop-i.invariant.upto,
      c.requires.fair.high,
      c.cell_rank-total.ensures,
      cell_small c.args.n c.loop-i.m c.loop-i.p c.args.set
          c.row_of-row.result c.cell-d.result
          c.row_of-row.ensures.low c.requires.fair.high c.loop-i.invariant.steps
          (fits c.before),
    )

pub loop-i-smaller : goal.loop-i-smaller
loop-i-smaller c = omega (arith, c.loop-i-test.true)

pub loop-i-preserved : goal.loop-i-preserved
loop-i-preserved c =
    ranking_more _ _ _ _ _ _ _ _ _ _ _ c.requires.fair.high
    c.loop-i-test.true c.cell-d.ensures c.row_of-row.ensures
    c.cell_rank-total.ensures c.loop-i.invariant

pub returns : goal.returns
returns c = ranking_end _ _ _ _ _ _ _ _ c.loop-i-test.false c.loop-i.invariant
