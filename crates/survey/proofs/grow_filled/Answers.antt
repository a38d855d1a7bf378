-- `survey::grow_filled` meets its contract.
use Rattle.survey.proofs.Tests.{grown_if, grown_turn}
use Rattle.survey.proofs.grow_filled.Goals as goal

pub returns : goal.returns
returns c = grown_turn (grown_if c.filled-yes.ensures c.with_if.ensures)
