-- `survey::worded` meets its contract.
use Rattle.survey.proofs.Tests.{says_either}
use Rattle.survey.proofs.worded.Goals as goal

pub returns : goal.returns
returns c =
    says_either c.either.ensures.or c.has-empty.ensures
    c.has-some.ensures
