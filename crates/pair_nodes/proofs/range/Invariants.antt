-- `pair_nodes::range` meets its contract.
use Prim.Native.Nat.{◌≤◌}
use Rattle.pair_nodes.specs.Putting.{RangeTo}
use Rattle.pair_nodes.proofs.range.Given as goal

abbrev pub invariant-loop-x : goal.invariant-loop-x
invariant-loop-x l = (l.a ≤ l.x) × RangeTo l.a l.b l.x l.set
