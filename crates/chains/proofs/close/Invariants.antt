use Prim.Native.Nat.{◌≤◌}
use Rattle.chains.specs.Reaching.{Closes}
use Rattle.chains.proofs.close.Given as goal

abbrev pub invariant-loop-k : goal.invariant-loop-k
invariant-loop-k l = (l.k ≤ 64) × Closes l.initial.words l.k l.words
