-- `acyclic::with_left` meets its contract: the left is added exactly where the clause is ready.
use mathlib.Core.Path.{refl}
use Rattle.acyclic.proofs.Growth.{grown_none, grown_with}
use Rattle.acyclic.proofs.with_left.Goals as goal

pub returns-then-ready : goal.returns-then-ready
returns-then-ready c = rw c.with.ensures
    (grown_with _ _ (refl, c.ready.ensures.is c.if-ready.true)
    (λ Y p. p.0))

pub returns : goal.returns
returns c = grown_none (λ Y p. absurd (c.ready.ensures.isnt c.if-ready.false p.1))
