-- `acyclic::beside` meets its contract: b is added exactly where d is nullable.
use mathlib.Core.Path.{refl}
use Rattle.acyclic.proofs.Growth.{grown_none, grown_with}
use Rattle.acyclic.proofs.beside.Goals as goal

pub returns-then-has : goal.returns-then-has
returns-then-has c = rw c.with.ensures
    (grown_with _ _ (refl, c.has.ensures.is c.if-has.true)
    (λ Y p. p.0))

pub returns : goal.returns
returns c = grown_none (λ Y p. absurd (c.has.ensures.isnt c.if-has.false p.1))
