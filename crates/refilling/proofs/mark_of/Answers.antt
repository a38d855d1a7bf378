use Rattle.refilling.proofs.KeptLaws.{mark_zero, mark_one, mark_two}
use Rattle.refilling.proofs.mark_of.Goals as goal

pub returns-then-x-eq0 : goal.returns-then-x-eq0
returns-then-x-eq0 c = mark_zero _ c.if-x-eq0.true

pub returns-then-x-eq1 : goal.returns-then-x-eq1
returns-then-x-eq1 c = mark_one _ c.if-x-eq1.true

pub returns : goal.returns
returns c = mark_two _ c.if-x-eq0.false c.if-x-eq1.false
