-- `with_range` meets its contract: the numbers below i are in the set.
use Prim.Native.Nat.{◌+◌, ◌≤◌}
use Rattle.rights.proofs.Ranges.{Upto}
use Rattle.rights.proofs.with_range.Given as goal

abbrev pub invariant-loop-i : goal.invariant-loop-i
invariant-loop-i l = Upto l.set l.low l.i l.out × (l.i ≤ l.high + 1)
