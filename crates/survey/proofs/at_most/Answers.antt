-- `survey::at_most` meets its contract.
use Rattle.survey.proofs.Sources.{most_exact}
use Rattle.survey.proofs.at_most.Goals as goal

pub returns : goal.returns
returns c =
    rw c.with.ensures
    (most_exact c.requires.1 c.requires.2 c.requires.3 c.close-set.ensures)
