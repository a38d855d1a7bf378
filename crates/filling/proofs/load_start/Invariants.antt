use mathlib.Core.Path.{◌≡◌}
use Prim.Native.Nat.{◌+◌, ◌≤◌}
use lib.ListN.{length}
use Rattle.cuts.specs.Cuts.{Mirrors}
use Rattle.filling.proofs.load_start.Given as goal

abbrev pub invariant-loop-len : goal.invariant-loop-len
invariant-loop-len l = (2 ≤ l.len) × (l.start + l.len ≤ l.n + 1)
    × Mirrors l.words l.n l.start l.len l.rows l.cols × (length l.cols ≡ length l.initial.cols)
