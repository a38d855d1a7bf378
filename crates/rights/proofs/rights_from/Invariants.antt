-- `rights_from` meets its contract. The loop's invariant: what the rest of the sheet says after the
-- rights read is what the sheet says.
use Prim.Native.Nat.{◌-◌}
use lib.ListN.{length}
use Rattle.rights.proofs.Lines.{Reading-on}
use Rattle.rights.proofs.rights_from.Given as goal

abbrev pub invariant-loop-r : goal.invariant-loop-r
invariant-loop-r l =
    Reading-on l.s l.start l.user l.sees l.changes l.n l.at

abbrev pub decreases-loop-r : goal.decreases-loop-r
decreases-loop-r l = length l.s - l.at
