use Prim.Native.Nat.{◌≤◌}
use Rattle.pair_entries.specs.Entering.{KindsTo}
use Rattle.pair_entries.proofs.kinds_of.Given as goal

abbrev pub invariant-loop-k : goal.invariant-loop-k
invariant-loop-k l = KindsTo l.f l.k l.set × (l.k ≤ 16)
