-- The loop's invariant: of the tokens before k the best so far, or none has several columns.
use Rattle.column_ranges.specs.RangeSentences.{ranges_of}
use Rattle.narrowing.proofs.Walking.{Seeking}
use Rattle.narrowing.proofs.next_token.Given as goal

abbrev pub invariant-loop-k : goal.invariant-loop-k
invariant-loop-k l = Seeking (ranges_of l.r) l.best l.k
