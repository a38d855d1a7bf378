-- `sheets::rules_from` meets its contract. The loop's invariant: what the rest of the sheet says
-- after the rules read is what the sheet says, and the index is true of the rules read.
use Prim.Native.Nat.{◌-◌}
use lib.ListN.{length}
use Rattle.sheets.proofs.Booking.{Reads}
use Rattle.sheets.proofs.rules_from.Given as goal

abbrev pub invariant-loop-at : goal.invariant-loop-at
invariant-loop-at l = Reads l.s l.start l.book l.at

abbrev pub decreases-loop-at : goal.decreases-loop-at
decreases-loop-at l = length l.s - l.at
