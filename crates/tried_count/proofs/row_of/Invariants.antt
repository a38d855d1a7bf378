-- `tried_count::row_of` meets its contract. The loop's invariant: the row has the ways to go on
-- with i cells.
use Prim.Native.Nat.{◌≤◌}
use Rattle.tried_count.specs.Rows.{RowOf}
use Rattle.tried_count.proofs.row_of.Given as goal

abbrev pub invariant-loop-i : goal.invariant-loop-i
invariant-loop-i l = (l.i ≤ l.r) × RowOf l.t l.n l.i l.row
