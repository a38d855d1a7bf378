use mathlib.Core.Path.{◌≡◌}
use native.Mathlib.Omega.{arith}
use Rattle.tried_count.proofs.Columns.{row_none, row_more}
use Rattle.tried_count.proofs.row_of.Goals as goal

pub loop-i-init : goal.loop-i-init
loop-i-init c = (omega arith, row_none _ _ c.requires.0.high)

pub grown-row-requires : goal.grown-row-requires
grown-row-requires c = (c.requires.0.high, c.requires.0.few, c.loop-i.invariant.1.low)

pub loop-i-preserved : goal.loop-i-preserved
loop-i-preserved c = (
  omega arith,
  row_more _ _ _ _ _ c.requires.0
      (omega (arith, c.loop-i-test.true, c.requires.1)) c.loop-i.invariant.1
      c.grown-row.ensures,
)

pub returns : goal.returns
returns c = let e : c.loop-i.i ≡ c.args.r =
    omega (arith, c.loop-i-test.false, c.loop-i.invariant.0) in rw e at c.loop-i.invariant.1
