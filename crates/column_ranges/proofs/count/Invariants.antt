-- The loop's invariant: the tokens from i on are counted, and their choices are within the limit.
use Rattle.column_ranges.proofs.Counting.{Counting}
use Rattle.column_ranges.proofs.count.Given as goal

abbrev pub invariant-loop-i : goal.invariant-loop-i
invariant-loop-i l = Counting l.r l.m l.i
