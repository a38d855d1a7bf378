-- No bit, one, or more.
use Rattle.contained_spans.proofs.CountLaws.{word_none, word_one, word_two}
use Rattle.contained_spans.proofs.ways.Goals as goal

pub returns-then-set-eq0 : goal.returns-then-set-eq0
returns-then-set-eq0 c = word_none _ c.if-set-eq0.true

pub returns-then-set-eq0-2 : goal.returns-then-set-eq0-2
returns-then-set-eq0-2 c = word_one _ c.if-set-eq0.false c.if-set-eq0-2.true

pub returns : goal.returns
returns c = word_two _ c.if-set-eq0.false c.if-set-eq0-2.false
