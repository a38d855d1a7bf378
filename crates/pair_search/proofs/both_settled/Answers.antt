use Rattle.pair_search.specs.Running.{at_first, later}
use Rattle.pair_search.proofs.both_settled.Goals as goal

pub returns-then-p-eq0 : goal.returns-then-p-eq0
returns-then-p-eq0 c = at_first c.if-p-eq0.true

pub returns : goal.returns
returns c = later
