-- `survey::level_of` meets its contract.
use Rattle.survey.proofs.level_of.Goals as goal

pub returns-then-has : goal.returns-then-has
returns-then-has c = c.has.ensures.is c.if-has.true

pub returns-then-has-2 : goal.returns-then-has-2
returns-then-has-2 c = (
  c.has.ensures.isnt c.if-has.false,
  c.has-2.ensures.is c.if-has-2.true,
)

pub returns-then-has-3 : goal.returns-then-has-3
returns-then-has-3 c = (
  c.has-2.ensures.isnt c.if-has-2.false,
  c.has-3.ensures.is c.if-has-3.true,
)

pub returns-then-has-4 : goal.returns-then-has-4
returns-then-has-4 c = (
  c.has-3.ensures.isnt c.if-has-3.false,
  c.has-4.ensures.is c.if-has-4.true,
)

pub returns : goal.returns
returns c = c.has-4.ensures.isnt c.if-has-4.false
