-- `survey::filled` meets its contract: what each kind of clause asks is asked.
use Rattle.sets.proofs.Says.{fails, says_leb}
use Rattle.survey.proofs.filled.Goals as goal

pub has-requires : goal.has-requires
has-requires c = rw c.in-Unary.is at c.requires

pub one_part-requires : goal.one_part-requires
one_part-requires c = rw c.in-Binary.is at c.requires

pub returns-in-Empty : goal.returns-in-Empty
returns-in-Empty c = rw c.in-Empty.is (fails (λ h. h))

pub returns-in-Atom : goal.returns-in-Atom
returns-in-Atom c = rw c.in-Atom.is (says_leb _ _)

pub returns-in-Unary : goal.returns-in-Unary
returns-in-Unary c = rw c.in-Unary.is c.has.ensures

pub returns-in-Binary : goal.returns-in-Binary
returns-in-Binary c = rw c.in-Binary.is c.one_part.ensures
