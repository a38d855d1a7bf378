-- `survey::productives` meets its contract.
use Rattle.survey.proofs.Sources.{filled_exact}
use Rattle.survey.proofs.productives.Goals as goal

pub returns : goal.returns
returns c = filled_exact c.requires.1 c.close.ensures
