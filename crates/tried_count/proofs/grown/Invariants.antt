-- `tried_count::grown` meets its contract. The loop's invariant: the columns below p are done, the
-- others 0.
use Prim.Native.Nat.{◌+◌, ◌≤◌}
use Rattle.tried_count.proofs.Columns.{Growing}
use Rattle.tried_count.proofs.grown.Given as goal

abbrev pub invariant-loop-p : goal.invariant-loop-p
invariant-loop-p l = (l.p ≤ l.n + 1) × Growing l.t l.n l.row l.p l.next
