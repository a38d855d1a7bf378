use Prim.Native.Nat.{◌≤◌}
use Rattle.pair_hints.proofs.put_kind.Given as goal

abbrev pub invariant-loop-k : goal.invariant-loop-k
invariant-loop-k l = (l.at ≤ 1024) × (l.k ≤ l.n)
