-- `doubt_marks::seen_by` meets its contract.
use Prim.Native.Nat.{ℕ, ◌-◌, ◌^◌}
use Rattle.sets.specs.Sets.{In}
use Rattle.doubt_marks.specs.Marking.{SeenBy}
use Rattle.doubt_marks.proofs.seen_by.Given as goal

abbrev pub invariant-loop-seen : goal.invariant-loop-seen
invariant-loop-seen l = In l.seen 0 × ((Y : ℕ) → In l.seen Y → SeenBy l.nodes l.own Y)

abbrev pub decreases-loop-seen : goal.decreases-loop-seen
decreases-loop-seen l = 2 ^ 64 - l.seen
