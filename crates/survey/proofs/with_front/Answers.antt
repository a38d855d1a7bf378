-- `survey::with_front` meets its contract.
use mathlib.Core.Path.{refl}
use Rattle.survey.proofs.Tests.{says_both, grown_if, grown_then}
use Rattle.survey.proofs.with_front.Goals as goal

pub returns : goal.returns
returns c =
    let x = says_both refl
    c.has-some.ensures c.worded-rest.ensures in
    let y = says_both refl c.has-empty.ensures
    c.has-second.ensures in
    grown_then (grown_if x c.with_if-one.ensures) (grown_if y c.with_if.ensures)
