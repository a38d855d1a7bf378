use Prim.Native.Nat.{◌≤◌}
use Rattle.pair_hints.proofs.list_hints.Given as goal

abbrev pub invariant-loop-kind : goal.invariant-loop-kind
invariant-loop-kind l = (l.at ≤ 1024) × (l.kind ≤ 16)
