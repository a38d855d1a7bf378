-- `reports::report` meets its contract: one of three beginnings, and what follows it.
use Rattle.reports.proofs.TellLaws.{clear_told, two_tells, refused_told, none_tells}
use Rattle.reports.proofs.report.Goals as goal

pub returns-then-starts_at : goal.returns-then-starts_at
returns-then-starts_at c =
    rw c.then_some.ensures
    (clear_told _ _ (c.starts_at.ensures.is c.if-starts_at.true) c.clear_rest.ensures)

pub returns-then-starts_at-2 : goal.returns-then-starts_at-2
returns-then-starts_at-2 c =
    two_tells _ (c.starts_at-2.ensures.is c.if-starts_at-2.true) c.two_rest.result
    c.two_rest.ensures

pub returns-then-starts_at-3 : goal.returns-then-starts_at-3
returns-then-starts_at-3 c =
    rw c.then_some-then-starts_at-3.ensures
    (refused_told _ _ (c.starts_at-3.ensures.is c.if-starts_at-3.true) c.refused_rest.ensures)

pub returns : goal.returns
returns c =
    none_tells _ (c.starts_at.ensures.isnt c.if-starts_at.false)
    (c.starts_at-2.ensures.isnt c.if-starts_at-2.false)
    (c.starts_at-3.ensures.isnt c.if-starts_at-3.false)
