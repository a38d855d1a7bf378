-- `survey::grow_stands` meets its contract.
use Rattle.survey.proofs.Tests.{grown_where, grown_not}
use Rattle.survey.proofs.grow_stands.Goals as goal

pub returns-then-under : goal.returns-then-under
returns-then-under c =
    grown_where (c.under.ensures.is c.if-under.true)
    c.with_parts.ensures

pub returns : goal.returns
returns c = grown_not (c.under.ensures.isnt c.if-under.false)
