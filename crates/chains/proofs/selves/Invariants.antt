use Prim.Native.Nat.{◌≤◌}
use Rattle.chains.specs.Reaching.{Selves}
use Rattle.chains.proofs.selves.Given as goal

abbrev pub invariant-loop-a : goal.invariant-loop-a
invariant-loop-a l = (l.a ≤ 64) × Selves l.a l.words
