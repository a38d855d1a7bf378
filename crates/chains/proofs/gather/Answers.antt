use mathlib.Core.Path.{refl}
use Rattle.chains.proofs.WordLaws.{gathers_next}
use Rattle.chains.proofs.gather.Goals as goal

pub loop-c-preserved : goal.loop-c-preserved
loop-c-preserved c =
    let l = c.loop-c.invariant in
    let m = c.in-Some.ensures.steps in
    rw m.1 (λ A i. l.0 A ((m.0.others A).0 i).0, gathers_next _ refl l.0 m.0 l.1)
