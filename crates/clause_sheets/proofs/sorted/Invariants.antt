-- `sorted` meets its contract.
use Rattle.clause_sheets.proofs.Takes.{Taking}
use Rattle.clause_sheets.proofs.sorted.Given as goal

abbrev pub invariant-loop-left : goal.invariant-loop-left
invariant-loop-left l = Taking l.words l.n l.rules l.count l.left 0

abbrev pub invariant-loop-i : goal.invariant-loop-i
invariant-loop-i l = Taking l.words l.n l.rules l.count l.left l.i
