use Rattle.column_search.proofs.verdict.Goals as goal

pub returns-then-not-in_first : goal.returns-then-not-in_first
returns-then-not-in_first c = c.in_first.ensures.isnt c.if-not-in_first.true

pub returns-then-in_second : goal.returns-then-in_second
returns-then-in_second c = c.in_second.ensures.is c.if-in_second.true

pub returns : goal.returns
returns c = (
  c.in_first.ensures.is c.if-not-in_first.false,
  c.in_second.ensures.isnt c.if-in_second.false,
)
