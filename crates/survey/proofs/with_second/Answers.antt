-- `survey::with_second` meets its contract.
use mathlib.Core.Path.{refl}
use Rattle.survey.proofs.Tests.{says_both, grown_if}
use Rattle.survey.proofs.with_second.Goals as goal

pub returns : goal.returns
returns c =
    let y = says_both refl c.has-first.ensures
    c.has-second.ensures in
    grown_if y c.with_if.ensures
