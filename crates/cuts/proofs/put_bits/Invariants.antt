use Rattle.cuts.specs.Puts.{Putting}
use Rattle.cuts.proofs.put_bits.Given as goal

abbrev pub invariant-loop-a : goal.invariant-loop-a
invariant-loop-a l = Putting l.initial.words l.words l.p l.set l.c l.a-iterator.rest
