-- The loop's invariant: the first i tokens are exchanged.
use mathlib.Core.Path.{◌≡◌}
use lib.ListN.{length}
use Rattle.range_marks.proofs.Bounds.{Exchanging}
use Rattle.range_marks.proofs.exchanged_ends.Given as goal

abbrev pub invariant-loop-i : goal.invariant-loop-i
invariant-loop-i l = Exchanging l.r l.tokens l.i × (length l.r.tokens ≡ 64)
