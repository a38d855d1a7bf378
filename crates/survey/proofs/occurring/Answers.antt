-- `survey::occurring` meets its contract.
use Rattle.survey.proofs.Sources.{stands_exact}
use Rattle.survey.proofs.occurring.Goals as goal

pub returns : goal.returns
returns c =
    rw c.with.ensures (stands_exact c.requires.1 c.requires.2 c.close-set.ensures)
