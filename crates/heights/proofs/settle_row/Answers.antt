use mathlib.Core.Path.{sym, ◌∙◌}
use native.Mathlib.Omega.{arith}
use Rattle.heights.proofs.RowLaws.{lefts_formed}
use Rattle.heights.proofs.FillLaws.{filled_on, filled_row}
use Rattle.heights.proofs.settle_row.Goals as goal

pub settle-requires : goal.settle-requires
settle-requires c = (
  record {
    draft = c.requires.whole.0;
    fits = omega (arith, c.loop-start-test.true, c.requires.whole.2);
    long = c.loop-start.invariant.long;
  },
  c.requires.whole.3,
)

pub loop-start-preserved : goal.loop-start-preserved
loop-start-preserved c =
    filled_on (lefts_formed c.requires.whole.3) c.requires.whole.1
    (omega (arith, c.loop-start-test.true, c.requires.whole.0.whole, c.requires.whole.2))
    c.loop-start.invariant c.settle.ensures

pub shape_of-hs : goal.shape_of-hs
shape_of-hs c = c.loop-start.invariant.long ∙ sym c.requires.filled.long

pub returns-2 : goal.returns-2
returns-2 c =
    filled_row (omega (arith, c.requires.whole.0.whole, c.requires.whole.2))
    (filled_on (lefts_formed c.requires.whole.3) c.requires.whole.1
    (omega (arith, c.loop-start-test.true, c.requires.whole.0.whole, c.requires.whole.2))
    c.loop-start.invariant c.settle.ensures)
