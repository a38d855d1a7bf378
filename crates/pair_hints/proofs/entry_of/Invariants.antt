use Prim.Native.Nat.{◌≤◌}
use Rattle.pair_hints.proofs.entry_of.Given as goal

abbrev pub invariant-loop-k : goal.invariant-loop-k
invariant-loop-k l = l.k ≤ l.n
