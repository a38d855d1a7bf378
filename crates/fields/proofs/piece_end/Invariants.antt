-- `fields::piece_end` meets its contract. The loop's invariant: the first byte b from i on is the
-- first from `at` on.
use Prim.Native.Nat.{◌+◌, ◌≤◌}
use mathlib.Core.Path.{◌≡◌}
use lib.ListN.{length, drop}
use Rattle.fields.specs.Pieces.{before}
use Rattle.fields.proofs.piece_end.Given as goal

abbrev pub invariant-loop-i : goal.invariant-loop-i
invariant-loop-i l =
    (l.i ≤ length l.s) × (l.at + length (before l.b (drop l.at l.s)) ≡ l.i
    + length (before l.b (drop l.i l.s)))
