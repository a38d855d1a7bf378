-- How many share the first cells, from the last token on.
use mathlib.Core.Path.{◌≡◌}
use Prim.Native.Nat.{◌≤◌}
use Rattle.arrangement_numbers.specs.Blocks.{room}
use Rattle.arrangement_numbers.proofs.room_past.Given as goal

abbrev pub invariant-loop-i : goal.invariant-loop-i
invariant-loop-i l = (l.b ≤ l.i) × (l.i ≤ l.n) × (l.v ≡ room l.set l.n l.i)
