-- The loop's invariant: the first k tokens may rise.
use Rattle.column_ranges.specs.RangeSentences.{ranges_of}
use Rattle.narrowing.proofs.Walking.{RoseTo}
use Rattle.narrowing.proofs.may_rise.Given as goal

abbrev pub invariant-loop-k : goal.invariant-loop-k
invariant-loop-k l = RoseTo (ranges_of l.r) l.k
