-- `group_end` meets its contract.
use Prim.Native.Nat.{◌-◌}
use lib.ListN.{length}
use Rattle.clause_rules.specs.Scanning.{Scan}
use Rattle.clause_rules.proofs.group_end.Given as goal

abbrev pub invariant-loop-deep : goal.invariant-loop-deep
invariant-loop-deep l = Scan l.s l.at l.i l.deep

abbrev pub decreases-loop-deep : goal.decreases-loop-deep
decreases-loop-deep l = length l.s - l.i
