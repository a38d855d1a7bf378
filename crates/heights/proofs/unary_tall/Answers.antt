use Rattle.heights.proofs.FallLaws.{measured_none, measured_unary}
use Rattle.heights.proofs.unary_tall.Goals as goal

pub returns-then-left-ne0 : goal.returns-then-left-ne0
returns-then-left-ne0 c = measured_none _ (λ h q. c.if-left-ne0.true q.1)

pub returns-then-not-allows_unary : goal.returns-then-not-allows_unary
returns-then-not-allows_unary c = measured_none _ (λ h q. c.allows_unary.ensures.isnt
    c.if-not-allows_unary.true q.0)

pub returns : goal.returns
returns c = measured_unary _ _ _ _ c.if-left-ne0.false
    (c.allows_unary.ensures.is
    c.if-not-allows_unary.false) c.high-h.ensures c.over.ensures
