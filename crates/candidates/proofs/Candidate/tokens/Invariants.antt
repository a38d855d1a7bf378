-- `candidates::Candidate::tokens` meets its contract. The loop's invariant: the first i tokens
-- are written, the others are 0, and the rest of the sentence is what the cells from i on say.
use Rattle.candidates.proofs.Spelling.{Spelling}
use Rattle.candidates.proofs.Candidate.tokens.Given as goal

abbrev pub invariant-loop-i : goal.invariant-loop-i
invariant-loop-i g l = Spelling g.row.N l.self l.n l.tokens l.line l.i
