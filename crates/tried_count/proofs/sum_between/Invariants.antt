-- `tried_count::sum_between` meets its contract. The loop's invariant: `s` is the sum of the
-- columns after a, up to k.
use Rattle.tried_count.specs.Rows.{at}
use Rattle.tried_count.proofs.Columns.{Summing}
use Rattle.tried_count.proofs.sum_between.Given as goal

abbrev pub invariant-loop-k : goal.invariant-loop-k
invariant-loop-k l = Summing (at l.row) l.a l.b l.k l.s
