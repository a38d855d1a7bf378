-- `survey::with_parts` meets its contract: each kind of clause adds what it has.
use Rattle.acyclic.proofs.Growth.{grown_none}
use Rattle.survey.proofs.Tests.{grown_if}
use Rattle.survey.proofs.with_parts.Goals as goal

pub worded-yes-requires : goal.worded-yes-requires
worded-yes-requires c = rw c.in-Unary.is at c.requires

pub with_if-requires : goal.with_if-requires
with_if-requires c =
    rw c.in-Unary.is at c.requires

pub with_both-requires : goal.with_both-requires
with_both-requires c = rw c.in-Binary.is at c.requires

pub returns-in-Empty : goal.returns-in-Empty
returns-in-Empty c = rw c.in-Empty.is (grown_none (λ Y p. absurd p))

pub returns-in-Atom : goal.returns-in-Atom
returns-in-Atom c = rw c.in-Atom.is (grown_none (λ Y p. absurd p))

pub returns-in-Unary : goal.returns-in-Unary
returns-in-Unary c =
    rw c.in-Unary.is
    (grown_if c.worded-yes.ensures c.with_if.ensures)

pub returns-in-Binary : goal.returns-in-Binary
returns-in-Binary c = rw c.in-Binary.is c.with_both.ensures
