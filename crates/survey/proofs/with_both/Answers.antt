-- `survey::with_both` meets its contract.
use mathlib.Core.Path.{refl}
use Rattle.survey.proofs.Tests.{says_both, grown_if, grown_two}
use Rattle.survey.proofs.with_both.Goals as goal

pub returns : goal.returns
returns c =
    let y = says_both refl c.worded-first.ensures
    c.worded-second.ensures in
    grown_two (grown_if y c.with_if-one.ensures) (grown_if y c.with_if.ensures)
