-- `scanning::digits_at` meets its contract: the loop goes from digit to digit, and each way out is
-- a place where no number goes on.
use Rattle.scanning.proofs.Places.{Reached}
use Rattle.scanning.proofs.digits_at.Given as goal

abbrev pub invariant-loop-i : goal.invariant-loop-i
invariant-loop-i l = Reached l.s l.at l.most l.v l.i
