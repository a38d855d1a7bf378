-- `acyclic::ready` meets its contract: what each kind of clause asks of the set is asked.
use Rattle.sets.proofs.Says.{holds, fails, says_iff}
use Rattle.acyclic.proofs.ready.Goals as goal

pub has-requires : goal.has-requires
has-requires c = rw c.in-Unary.is at c.requires

pub has-requires-in-Binary : goal.has-requires-in-Binary
has-requires-in-Binary c = (rw c.in-Binary.is at c.requires).0

pub has-requires-then-has : goal.has-requires-then-has
has-requires-then-has c = (rw c.in-Binary.is at
    c.requires).1

pub returns-then-has : goal.returns-then-has
returns-then-has c =
    rw c.in-Binary.is
    (says_iff (λ i. (c.has-in-Binary.ensures.is c.if-has.true, i)) (λ h. h.1)
    c.has-then-has.ensures)

pub returns-in-Empty : goal.returns-in-Empty
returns-in-Empty c = rw c.in-Empty.is (holds tt)

pub returns-in-Atom : goal.returns-in-Atom
returns-in-Atom c = rw c.in-Atom.is (fails (λ h. h))

pub returns-in-Unary : goal.returns-in-Unary
returns-in-Unary c = rw c.in-Unary.is c.has.ensures

pub returns-else-has : goal.returns-else-has
returns-else-has c = rw c.in-Binary.is
    (fails (λ h. c.has-in-Binary.ensures.isnt c.if-has.false h.0))
