-- `survey::with_child` meets its contract.
use mathlib.Core.Path.{refl}
use Rattle.survey.proofs.Tests.{says_both, says_most, grown_if}
use Rattle.survey.proofs.with_child.Goals as goal

pub returns : goal.returns
returns c =
    let y = says_both refl c.has-some.ensures
    (says_most c.rank_of-rank.ensures) in
    grown_if y c.with_if.ensures
