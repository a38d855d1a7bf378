-- `survey::beginning` meets its contract.
use Rattle.survey.proofs.Sources.{begins_exact}
use Rattle.survey.proofs.beginning.Goals as goal

pub returns : goal.returns
returns c = begins_exact c.requires.1 c.requires.2 c.close.ensures
