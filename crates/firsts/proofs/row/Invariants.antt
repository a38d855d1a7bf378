-- `firsts::row` meets its contract. The loop's invariant: the terminals below x were looked at.
use Prim.Native.Nat.{◌≤◌}
use Rattle.firsts.specs.Rows.{RowOf}
use Rattle.firsts.proofs.row.Given as goal

abbrev pub invariant-loop-x : goal.invariant-loop-x
invariant-loop-x l = (l.x ≤ 64) × RowOf l.columns l.a l.x l.set
