use Prim.Native.Nat.{◌+◌}
use native.Mathlib.Omega.{arith}
use Rattle.tried_count.proofs.Columns.{summing_none, summing_more, summing_end}
use Rattle.tried_count.proofs.Columns.{summing_small}
use Rattle.tried_count.proofs.sum_between.Goals as goal

pub loop-k-init : goal.loop-k-init
loop-k-init c = summing_none _ _ _

pub overflow_add-s-in-loop-k : goal.overflow_add-s-in-loop-k
overflow_add-s-in-loop-k c =
    omega (
      arith,
      c.requires.1.each (c.loop-k.k + 1),
      summing_small _ _ _ _ _
          c.requires.1 c.loop-k-test.true c.requires.0 c.loop-k.invariant,
    )

pub loop-k-preserved : goal.loop-k-preserved
loop-k-preserved c = summing_more _ _ _ _ _ c.loop-k-test.true c.loop-k.invariant

pub returns : goal.returns
returns c = summing_end _ _ _ _ _ c.loop-k-test.false c.loop-k.invariant
