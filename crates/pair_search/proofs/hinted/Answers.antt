use Rattle.pair_search.proofs.RunLaws.{stays}
use Rattle.pair_search.proofs.hinted.Goals as goal

pub returns : goal.returns
returns c = stays tt
