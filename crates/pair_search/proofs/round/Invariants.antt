use Prim.Native.Nat.{◌*◌, ◌-◌, ◌≤◌}
use Rattle.pair_search.specs.Running.{Round}
use Rattle.pair_search.proofs.round.Given as goal

abbrev pub invariant-loop-p : goal.invariant-loop-p
invariant-loop-p l = Round l.nodes (36 * l.p) l.initial.words l.words l.still × (l.p ≤ 1296)

abbrev pub decreases-loop-p : goal.decreases-loop-p
decreases-loop-p l = 1296 - l.p
