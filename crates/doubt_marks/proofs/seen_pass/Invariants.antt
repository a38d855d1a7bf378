-- `doubt_marks::seen_pass` meets its contract.
use Prim.Native.Nat.{◌≤◌}
use Rattle.doubt_marks.specs.Marking.{SeenPass}
use Rattle.doubt_marks.proofs.seen_pass.Given as goal

abbrev pub invariant-loop-i : goal.invariant-loop-i
invariant-loop-i l = (l.i ≤ 384) × SeenPass l.nodes l.own l.i l.seen l.next
