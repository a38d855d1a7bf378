-- The loop's invariant: what the rest of the sheet says after the items read is what the sheet
-- says.
use Prim.Native.Nat.{◌-◌}
use lib.ListN.{length}
use Rattle.range_sheets.specs.RangeSheets.{range_says}
use Rattle.sheets.proofs.Loop.{Filled}
use Rattle.range_sheets.proofs.ranges_from.Given as goal

abbrev pub invariant-loop-t : goal.invariant-loop-t
invariant-loop-t l = Filled 64 14 12 range_says l.s l.start l.tokens l.n l.at

abbrev pub decreases-loop-t : goal.decreases-loop-t
decreases-loop-t l = length l.s - l.at
