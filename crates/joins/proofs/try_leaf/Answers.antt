-- Where the rule stands by itself, it is counted.
use mathlib.Core.Bool.{false}
use Rattle.sets.proofs.Says.{fails}
use Rattle.joins.specs.Passes.Took.{stood}
use Rattle.joins.proofs.try_leaf.Goals as goal

pub returns-then-len-eq0 : goal.returns-then-len-eq0
returns-then-len-eq0 c = rw c.in-Empty.is
    (stood false c.if-len-eq0.true (fails (λ z. z)) c.found.ensures)

pub returns-then-allows_atom : goal.returns-then-allows_atom
returns-then-allows_atom c =
    rw c.in-Atom.is
    (stood false (c.if-len-eq1.true, c.allows_atom.ensures.is c.if-allows_atom.true)
    (fails (λ z. z)) c.found-then-allows_atom.ensures)
