-- The loop's invariant: from k on each token has one column.
use Rattle.column_ranges.specs.RangeSentences.{ranges_of}
use Rattle.narrowing.specs.Narrowing.{SinglesFrom}
use Rattle.narrowing.proofs.last_token.Given as goal

abbrev pub invariant-loop-k : goal.invariant-loop-k
invariant-loop-k l = SinglesFrom (ranges_of l.r) l.k
