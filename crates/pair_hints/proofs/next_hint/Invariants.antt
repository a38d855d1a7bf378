use Prim.Native.Nat.{◌-◌, ◌≤◌}
use Rattle.pair_hints.proofs.next_hint.Given as goal

abbrev pub invariant-loop-at : goal.invariant-loop-at
invariant-loop-at l = l.from ≤ l.at

abbrev pub decreases-loop-at : goal.decreases-loop-at
decreases-loop-at l = l.end - l.at
