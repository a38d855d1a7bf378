-- The test is the answer.
use Rattle.sets.proofs.Says.{says_leb}
use Rattle.grammar.proofs.leaves_free.Goals as goal

pub returns : goal.returns
returns c = rw c.past.ensures (says_leb _ _)
