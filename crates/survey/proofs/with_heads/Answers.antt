-- `survey::with_heads` meets its contract: each kind of clause adds what begins its word.
use Rattle.acyclic.proofs.Growth.{grown_none}
use Rattle.survey.proofs.with_heads.Goals as goal

pub with_child-requires : goal.with_child-requires
with_child-requires c = rw c.in-Unary.is at c.requires

pub with_front-requires : goal.with_front-requires
with_front-requires c = rw c.in-Binary.is at c.requires

pub returns-in-Empty : goal.returns-in-Empty
returns-in-Empty c = rw c.in-Empty.is (grown_none (λ Y p. absurd p))

pub returns-in-Atom : goal.returns-in-Atom
returns-in-Atom c = rw c.in-Atom.is (grown_none (λ Y p. absurd p))

pub returns-in-Unary : goal.returns-in-Unary
returns-in-Unary c = rw c.in-Unary.is c.with_child.ensures

pub returns-in-Binary : goal.returns-in-Binary
returns-in-Binary c = rw c.in-Binary.is c.with_front.ensures
