use Rattle.pair_steps.proofs.NarrowLaws.{second_less, second_more}
use native.Mathlib.Omega.{arith}
use Rattle.pair_steps.proofs.second_stop.Goals as goal

pub returns-then-kids-lt2 : goal.returns-then-kids-lt2
returns-then-kids-lt2 c = let a = c.args in
    second_less a.kids a.stop (omega (arith, c.if-kids-lt2.true))

pub returns : goal.returns
returns c = let a = c.args in
    second_more a.kids a.stop (omega (arith, c.if-kids-lt2.false))
