use Prim.Native.Nat.{◌≤◌}
use Rattle.chains.specs.Reaching.{Through}
use Rattle.chains.proofs.through.Given as goal

abbrev pub invariant-loop-a : goal.invariant-loop-a
invariant-loop-a l = (l.a ≤ 64) × Through l.k l.initial.words l.a l.words
