-- `lexemes::digits_end` meets its contract. The loop's invariant: the digits from i on end where
-- those from `at` on do.
use Prim.Native.Nat.{◌+◌, ◌≤◌}
use mathlib.Core.Path.{◌≡◌}
use lib.ListN.{length, drop}
use Rattle.lexemes.specs.Lexemes.{front_digits}
use Rattle.lexemes.proofs.digits_end.Given as goal

abbrev pub invariant-loop-i : goal.invariant-loop-i
invariant-loop-i l =
    (l.i ≤ length l.s) × (l.at + length (front_digits (drop l.at l.s)) ≡ l.i
    + length (front_digits (drop l.i l.s)))
