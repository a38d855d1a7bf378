-- The loop's invariant: the first i tokens are in their lowest columns.
use Rattle.narrowing.proofs.Walking.{LowestPlaced}
use Rattle.narrowing.proofs.lowest_sentence.Given as goal

abbrev pub invariant-loop-i : goal.invariant-loop-i
invariant-loop-i l = LowestPlaced l.r l.tokens l.i
