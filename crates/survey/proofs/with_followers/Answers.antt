-- `survey::with_followers` meets its contract: a clause of two nonterminals adds the second.
use Rattle.acyclic.proofs.Growth.{grown_none}
use Rattle.survey.proofs.with_followers.Goals as goal

pub with_second-requires : goal.with_second-requires
with_second-requires c = rw c.in-Binary.is at c.requires

pub returns-in-Empty : goal.returns-in-Empty
returns-in-Empty c = rw c.in-Empty.is (grown_none (λ Y p. absurd p))

pub returns-in-Atom : goal.returns-in-Atom
returns-in-Atom c = rw c.in-Atom.is (grown_none (λ Y p. absurd p))

pub returns-in-Unary : goal.returns-in-Unary
returns-in-Unary c = rw c.in-Unary.is (grown_none (λ Y p. absurd p))

pub returns-in-Binary : goal.returns-in-Binary
returns-in-Binary c = rw c.in-Binary.is c.with_second.ensures
