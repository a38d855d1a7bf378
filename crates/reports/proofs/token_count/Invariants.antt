-- `reports::token_count` meets its contract: n token lines stand before `end`, and behind one of
-- them the text goes on.
use mathlib.Core.Path.{◌≡◌}
use mathlib.Core.Logic.{◌⊎◌}
use Prim.Native.Nat.{◌<◌}
use lib.ListN.{length}
use Rattle.reports.proofs.Counting.{Counted}
use Rattle.reports.proofs.token_count.Given as goal

abbrev pub invariant-loop-n : goal.invariant-loop-n
invariant-loop-n l = Counted l.s l.at l.n l.end × ((l.n ≡ 0) ⊎ (l.end < length l.s))
