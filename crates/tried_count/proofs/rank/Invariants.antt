-- `tried_count::rank` meets its contract. The loop's invariant: `total` has the part of the i cells
-- done, and what is left makes it whole.
use Rattle.tried_count.proofs.Ranking.{Ranking}
use Rattle.tried_count.proofs.rank.Given as goal

abbrev pub invariant-loop-i : goal.invariant-loop-i
invariant-loop-i l = Ranking l.set l.t l.n l.c l.i l.m l.p l.total
