use native.Mathlib.Omega.{arith}
use Rattle.sets.proofs.Says.{holds, fails}
use Rattle.acyclic.proofs.Chains.{apart_more, apart_all, cyclic_at}
use Rattle.acyclic.proofs.cyclic.Goals as goal

pub nullables-nulls-requires : goal.nullables-nulls-requires
nullables-nulls-requires c = c.requires

pub loop-a-init : goal.loop-a-init
loop-a-init c = (omega arith, λ A h r. omega arith)

pub reach-reached-requires : goal.reach-reached-requires
reach-reached-requires c = (c.requires, c.nullables-nulls.ensures)

pub returns-then-has : goal.returns-then-has
returns-then-has c = holds (cyclic_at c.reach-reached.ensures
    (c.has.ensures.is c.if-has.true))

pub loop-a-preserved : goal.loop-a-preserved
loop-a-preserved c = (
  omega arith,
  apart_more c.loop-a.invariant.1
      c.reach-reached.ensures (c.has.ensures.isnt c.if-has.false),
)

pub returns : goal.returns
returns c = fails (apart_all c.requires
    c.nullables-nulls.ensures _ c.loop-a-test.false c.loop-a.invariant.1)
