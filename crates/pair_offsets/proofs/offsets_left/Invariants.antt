use Prim.Native.Nat.{◌≤◌}
use Rattle.pair_offsets.specs.Lists.{OffsetsLeft}
use Rattle.pair_offsets.proofs.offsets_left.Given as goal

abbrev pub invariant-loop-i : goal.invariant-loop-i
invariant-loop-i l = (l.from ≤ l.i) × (l.i ≤ l.end) × OffsetsLeft l.list l.from l.i l.m l.r
