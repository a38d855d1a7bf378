-- `pair_nodes::range` meets its contract.
use Prim.Native.Nat.{◌+◌}
use native.Mathlib.Omega.{arith}
use Rattle.pair_nodes.proofs.PutLaws.{range_none, range_more, range_all}
use Rattle.pair_nodes.proofs.range.Goals as goal

pub loop-x-init : goal.loop-x-init
loop-x-init c = (omega arith, range_none c.args.a c.args.b)

pub with-set-requires : goal.with-set-requires
with-set-requires c = omega (arith, c.loop-x-test.true, c.requires)

pub loop-x-preserved : goal.loop-x-preserved
loop-x-preserved c =
    let i = c.loop-x.invariant in
    (omega arith, rw c.with-set.ensures (range_more i.0 c.loop-x-test.true i.1))

pub returns : goal.returns
returns c = range_all (omega (arith, c.loop-x-test.false)) c.loop-x.invariant.1

pub returns-2 : goal.returns-2
returns-2 c =
    let i = c.loop-x.invariant in
    range_all {x = c.loop-x.x + 1} (omega arith)
    (rw c.with-set.ensures (range_more i.0 c.loop-x-test.true i.1))
