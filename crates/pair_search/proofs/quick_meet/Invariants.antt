use Prim.Native.Nat.{◌-◌, ◌≤◌}
use Rattle.pair_search.specs.Running.{SomeRan}
use Rattle.pair_search.proofs.quick_meet.Given as goal

abbrev pub invariant-loop-at : goal.invariant-loop-at
invariant-loop-at l =
    SomeRan l.x l.y l.i l.j l.initial.words l.words l.still × (l.end ≤ 1023)

abbrev pub decreases-loop-at : goal.decreases-loop-at
decreases-loop-at l = l.end - l.at
