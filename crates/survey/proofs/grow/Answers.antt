-- `survey::grow` meets its contract.
use Rattle.survey.proofs.grow.Goals as goal

pub returns-in-Filled : goal.returns-in-Filled
returns-in-Filled c = rw c.in-Filled.is c.grow_filled.ensures

pub returns-in-Begins : goal.returns-in-Begins
returns-in-Begins c = rw c.in-Begins.is c.grow_begins.ensures

pub returns-in-Stands : goal.returns-in-Stands
returns-in-Stands c = rw c.in-Stands.is c.grow_stands.ensures

pub returns-in-Heads : goal.returns-in-Heads
returns-in-Heads c = rw c.in-Heads.is c.grow_heads.ensures
