-- `lines_emit` meets its contract.
use Prim.Native.Nat.{◌-◌}
use lib.ListN.{length}
use Rattle.rule_output.specs.Emitting.{held}
use Rattle.clause_sheets.specs.Checks.{Emitting}
use Rattle.clause_sheets.proofs.lines_emit.Given as goal

abbrev pub invariant-loop-at : goal.invariant-loop-at
invariant-loop-at l =
    Emitting l.s l.start (held l.initial.rules l.initial.out) (held l.rules l.out) l.at

abbrev pub decreases-loop-at : goal.decreases-loop-at
decreases-loop-at l = length l.s - l.at
