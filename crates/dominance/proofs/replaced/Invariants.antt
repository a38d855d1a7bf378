-- Nothing is said of what was passed; the one that serves is the answer.
use Prim.Native.Nat.{◌≤◌}
use Rattle.dominance.proofs.replaced.Given as goal

abbrev pub invariant-loop-y : goal.invariant-loop-y
invariant-loop-y l = l.y ≤ l.x
