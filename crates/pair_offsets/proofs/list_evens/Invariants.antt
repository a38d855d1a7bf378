use Prim.Native.Nat.{◌≤◌}
use Rattle.pair_offsets.specs.Lists.{Listing}
use Rattle.pair_offsets.proofs.list_evens.Given as goal

abbrev pub invariant-loop-t : goal.invariant-loop-t
invariant-loop-t l = (l.t ≤ 4096) × Listing l.f l.initial.out l.out l.from l.t l.n
