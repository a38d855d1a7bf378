use Rattle.pair_steps.proofs.NarrowLaws.{first_more}
use native.Mathlib.Omega.{arith}
use Rattle.pair_steps.proofs.first_stop.Goals as goal

pub returns : goal.returns
returns c =
    let a = c.args in
    first_more a.kids a.cut a.stop (λ e. omega (arith, e, c.if-kids-eq0.false))
    (λ e. omega (arith, e, c.if-kids-eq1.false))
