-- `survey::grow_follow` meets its contract.
use Rattle.survey.proofs.Tests.{says_either, grown_where, grown_not}
use Rattle.survey.proofs.grow_follow.Goals as goal

pub returns-then-either : goal.returns-then-either
returns-then-either c =
    let y = says_either c.either.ensures.or c.under-member.ensures
    c.has-wide.ensures in
    grown_where (y.is c.if-either.true) c.with_followers.ensures

pub returns : goal.returns
returns c =
    let y = says_either c.either.ensures.or c.under-member.ensures
    c.has-wide.ensures in
    grown_not (y.isnt c.if-either.false)
