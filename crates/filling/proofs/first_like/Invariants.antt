use Prim.Native.Nat.{◌≤◌}
use Rattle.filling.proofs.first_like.Given as goal

abbrev pub invariant-loop-j : goal.invariant-loop-j
invariant-loop-j l = l.j ≤ l.i
