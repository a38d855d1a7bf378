-- `add` meets its contract: `capped` is the lesser of a count and the limit.
use Rattle.row_counts.specs.Capped.{capped}
use Rattle.row_counts.proofs.add.Goals as goal

pub returns : goal.returns
unfolding capped
returns c = c.min.ensures
