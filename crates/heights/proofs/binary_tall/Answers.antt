use native.Mathlib.Omega.{arith}
use Rattle.heights.proofs.FallLaws.{measured_none, measured_binary}
use Rattle.heights.proofs.binary_tall.Goals as goal

pub returns-then-len-left : goal.returns-then-len-left
returns-then-len-left c = measured_none _ (λ h q. omega (arith, c.if-len-left.true, q.0))

pub returns-then-not-allows_binary : goal.returns-then-not-allows_binary
returns-then-not-allows_binary c = measured_none _ (λ h q. c.allows_binary.ensures.isnt
    c.if-not-allows_binary.true q.1)

pub returns : goal.returns
returns c = measured_binary _ _ _ _ _ _
    (omega (arith, c.if-len-left.false))
    (c.allows_binary.ensures.is
    c.if-not-allows_binary.false) c.high-x.ensures
    c.high-y.ensures c.over.ensures
