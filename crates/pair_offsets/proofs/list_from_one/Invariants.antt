use Prim.Native.Nat.{◌+◌, ◌*◌, ◌≤◌}
use Rattle.pair_offsets.specs.Lists.{Listing}
use Rattle.pair_offsets.proofs.list_from_one.Given as goal

abbrev pub invariant-loop-t : goal.invariant-loop-t
invariant-loop-t l =
    (l.t ≤ 1024) × Listing l.f l.initial.out l.out l.from (4 * l.t) l.n × (l.n ≤ l.from + l.t)
