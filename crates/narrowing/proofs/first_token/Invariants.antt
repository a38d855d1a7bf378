-- The loop's invariant: before k each token has one column.
use Rattle.column_ranges.specs.RangeSentences.{ranges_of}
use Rattle.narrowing.specs.Narrowing.{SinglesBefore}
use Rattle.narrowing.proofs.first_token.Given as goal

abbrev pub invariant-loop-k : goal.invariant-loop-k
invariant-loop-k l = SinglesBefore (ranges_of l.r) l.k
