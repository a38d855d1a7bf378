-- Each kind of clause adds what it has.
use Rattle.acyclic.proofs.Growth.{grown_none}
use Rattle.reachable_rules.proofs.ReachLaws.{parts_one, parts_two}
use Rattle.reachable_rules.proofs.with_parts.Goals as goal

pub with-requires : goal.with-requires
with-requires c = rw c.in-Unary.is at c.requires

pub with-s-requires : goal.with-s-requires
with-s-requires c = (rw c.in-Binary.is at c.requires).0

pub with-requires-in-Binary : goal.with-requires-in-Binary
with-requires-in-Binary c =
    (rw c.in-Binary.is at c.requires).1

pub returns-in-Empty : goal.returns-in-Empty
returns-in-Empty c = rw c.in-Empty.is (grown_none (λ Y p. absurd p))

pub returns-in-Atom : goal.returns-in-Atom
returns-in-Atom c = rw c.in-Atom.is (grown_none (λ Y p. absurd p))

pub returns-in-Unary : goal.returns-in-Unary
returns-in-Unary c = rw c.in-Unary.is (parts_one _ c.with.ensures)

pub returns-in-Binary : goal.returns-in-Binary
returns-in-Binary c = rw c.in-Binary.is
    (parts_two _ _ c.with-s.ensures c.with-in-Binary.ensures)
