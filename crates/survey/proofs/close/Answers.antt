use native.Mathlib.Omega.{arith}
use Rattle.sets.proofs.Sets.{in_zero}
use Rattle.acyclic.proofs.Growth.{passed_all}
use Rattle.survey.proofs.close.Goals as goal

pub loop-set-init : goal.loop-set-init
loop-set-init c = λ Y i. absurd (in_zero Y i)

pub pass-next-requires : goal.pass-next-requires
pass-next-requires c = c.requires

pub returns-then-next-set : goal.returns-then-next-set
returns-then-next-set c =
    record {
      sound = c.loop-set.invariant;
      shut = passed_all c.pass-next.ensures c.requires.0.whole
          c.if-next-set.true;
    }

pub loop-set-smaller : goal.loop-set-smaller
loop-set-smaller c = omega (arith, c.pass-next.ensures.more, c.pass-next.type_inv)

pub loop-set-preserved : goal.loop-set-preserved
loop-set-preserved c = c.pass-next.ensures.sound c.loop-set.invariant
