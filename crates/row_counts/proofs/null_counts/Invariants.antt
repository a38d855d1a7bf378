-- The loop's invariant: the counts that were found are right. The measure is how many are not found
-- yet.
use Rattle.grammar.specs.Content.{rules_of}
use Rattle.row_counts.specs.Nulls.{Sound, zeros}
use Rattle.row_counts.proofs.null_counts.Given as goal

abbrev pub invariant-loop-s : goal.invariant-loop-s
invariant-loop-s l = Sound (rules_of l.g) l.z

abbrev pub decreases-loop-s : goal.decreases-loop-s
decreases-loop-s l = zeros l.z
