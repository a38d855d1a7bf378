use Rattle.cuts.proofs.JoinLaws.{joins_or}
use Rattle.chains.proofs.add_set.Goals as goal

pub returns : goal.returns
returns c = joins_or _ _ _ c.requires
