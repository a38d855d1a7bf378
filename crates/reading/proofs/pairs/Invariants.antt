-- Each turn takes a pair off the front.
use Rattle.std.proofs.Common.{length}
use Rattle.reading.proofs.pairs.Given as goal

abbrev pub decreases-loop-p : goal.decreases-loop-p
decreases-loop-p g l = length l.rest
