-- `sheets::line_after` meets its contract. The loop's invariant: the line with as many lines before
-- it from `at` on as turns are left is the one wanted.
use Prim.Native.Nat.{◌-◌}
use Rattle.sheets.proofs.Walks.{Walk}
use Rattle.sheets.proofs.line_after.Given as goal

abbrev pub invariant-loop : goal.invariant-loop
invariant-loop l = Walk l.s l.n l.at (l.n - l.counter)
