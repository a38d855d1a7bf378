-- `sign_at` meets its contract. The loop's invariant: none of the first i signs stands at the
-- place.
use mathlib.Core.Path.{◌≡◌}
use Prim.Native.Nat.{◌≤◌}
use lib.ListN.{drop}
use Rattle.lexemes.specs.Lexemes.{signs, first_sign}
use Rattle.lexemes.proofs.sign_at.Given as goal

abbrev pub invariant-loop-i : goal.invariant-loop-i
invariant-loop-i l =
    (l.i ≤ 14) × (first_sign signs (drop l.at l.s) ≡ first_sign (drop l.i signs) (drop l.at l.s))
