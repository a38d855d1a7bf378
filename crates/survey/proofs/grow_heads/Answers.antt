-- `survey::grow_heads` meets its contract.
use Rattle.survey.proofs.Tests.{grown_then}
use Rattle.survey.proofs.grow_heads.Goals as goal

pub returns : goal.returns
returns c = grown_then c.grow_front-next.ensures c.grow_follow.ensures
