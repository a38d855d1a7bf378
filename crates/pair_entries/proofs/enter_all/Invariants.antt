use Prim.Native.Nat.{◌+◌, ◌*◌, ◌≤◌}
use Rattle.pair_entries.specs.Entering.{Entered}
use Rattle.pair_entries.proofs.enter_all.Given as goal

abbrev pub invariant-loop-s : goal.invariant-loop-s
invariant-loop-s l =
    Entered l.initial.words l.words l.n l.m (36 * l.p) (36 * l.p + l.s) l.end × (l.s ≤ 36)
