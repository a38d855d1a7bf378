-- `lengths::given` meets its contract.
use Rattle.lengths.proofs.Growing.{makes_empty, makes_atom, makes_none, makes_unary}
use Rattle.lengths.proofs.Growing.{makes_binary}
use Rattle.lengths.proofs.given.Goals as goal

pub returns-in-Empty : goal.returns-in-Empty
returns-in-Empty c = makes_empty _ _ c.in-Empty.is

pub returns-then-a-b : goal.returns-then-a-b
returns-then-a-b c = makes_atom _ _ c.in-Atom.is c.if-a-b.true

pub returns-else-a-b : goal.returns-else-a-b
returns-else-a-b c = makes_none _ _ c.in-Atom.is c.if-a-b.false

pub returns-in-Unary : goal.returns-in-Unary
returns-in-Unary c = makes_unary _ _ c.in-Unary.is c.requires.0

pub returns-in-Binary : goal.returns-in-Binary
returns-in-Binary c = makes_binary _ _ c.in-Binary.is c.sums.ensures
