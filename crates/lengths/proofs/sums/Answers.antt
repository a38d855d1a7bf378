use mathlib.Core.Path.{◌≡◌}
use native.Mathlib.Omega.{arith}
use Rattle.lengths.proofs.SmallSets.{sums_none}
use Rattle.lengths.proofs.sums.Goals as goal

pub loop-i-init : goal.loop-i-init
loop-i-init c = (omega arith, sums_none _ _)

pub joined-r-requires : goal.joined-r-requires
joined-r-requires c = (c.loop-i-test.true, c.requires, c.loop-i.invariant.1)

pub loop-i-preserved : goal.loop-i-preserved
loop-i-preserved c = (omega arith, c.joined-r.ensures)

pub returns : goal.returns
returns c = let e : c.loop-i.i ≡ 8 =
    omega (arith, c.loop-i-test.false, c.loop-i.invariant.0) in rw e at c.loop-i.invariant.1
