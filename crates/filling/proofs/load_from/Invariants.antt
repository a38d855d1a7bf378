use mathlib.Core.Path.{◌≡◌}
use Prim.Native.Nat.{◌≤◌}
use lib.ListN.{length}
use Rattle.filling.specs.Closing.{Columns}
use Rattle.filling.proofs.load_from.Given as goal

abbrev pub invariant-loop-start : goal.invariant-loop-start
invariant-loop-start l = (l.to ≤ l.start) × (l.start ≤ l.n)
    × (length l.rows ≡ 128) × Columns l.words l.n l.start l.cols
    × (length l.cols ≡ length l.initial.cols)
