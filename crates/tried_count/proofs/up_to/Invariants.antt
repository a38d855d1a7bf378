-- `tried_count::up_to` meets its contract. The loop's invariant: `total` counts those of up to
-- n - 1 tokens.
use Prim.Native.Nat.{◌+◌, ◌-◌, ◌*◌, ◌≤◌}
use Rattle.sets.specs.Sets.{In}
use Rattle.candidates.specs.Terminals.{Among}
use Rattle.counting.specs.Counts.{HowMany}
use Rattle.tried_count.specs.Tried.{Sized}
use Rattle.tried_count.proofs.up_to.Given as goal

abbrev pub invariant-loop-n : goal.invariant-loop-n
invariant-loop-n l =
    (l.n ≤ l.k + 1) × (l.total ≤ (l.n - 1) * 5772436045824)
    × HowMany (Sized (In l.lengths) (Among l.set) (l.n - 1)) l.total
