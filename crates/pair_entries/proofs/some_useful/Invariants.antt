use Prim.Native.Nat.{◌+◌, ◌*◌, ◌≤◌}
use mathlib.Core.Bool.{false}
use Rattle.pair_entries.specs.Entering.{NoneUseful}
use Rattle.pair_entries.proofs.some_useful.Given as goal

abbrev pub invariant-loop-s : goal.invariant-loop-s
invariant-loop-s l = NoneUseful (36 * l.p) (36 * l.p + l.s) false × (l.s ≤ 36)
