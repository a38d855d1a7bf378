use Rattle.refilling.specs.Turning.{Turning}
use Rattle.refilling.proofs.turn_bits.Given as goal

abbrev pub invariant-loop-a : goal.invariant-loop-a
invariant-loop-a l = Turning l.initial.words l.words l.p l.set l.c l.a-iterator.rest
