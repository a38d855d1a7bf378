-- `survey::one_part` meets its contract.
use mathlib.Core.Path.{refl}
use Rattle.survey.proofs.Tests.{says_both, says_either}
use Rattle.survey.proofs.one_part.Goals as goal

pub returns : goal.returns
returns c =
    let x = says_both refl c.has-first.ensures
    c.worded-rest.ensures in
    let y = says_both refl c.has-empty.ensures c.has-second.ensures in
    says_either c.either.ensures.or x y
