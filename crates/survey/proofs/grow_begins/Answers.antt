-- `survey::grow_begins` meets its contract.
use Rattle.survey.proofs.Tests.{grown_if, grown_turn}
use Rattle.survey.proofs.grow_begins.Goals as goal

pub returns : goal.returns
returns c = grown_turn (grown_if c.begins-yes.ensures c.with_if.ensures)
