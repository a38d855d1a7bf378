use Rattle.pair_steps.proofs.NarrowLaws.{narrow_pair, narrow_none}
use native.Mathlib.Omega.{arith}
use Rattle.pair_steps.proofs.pair.Goals as goal

pub returns-then-c-b : goal.returns-then-c-b
returns-then-c-b c =
    narrow_pair _ _ _ _ _ _ _ _ (omega (arith, c.if-a-d.true))
    (omega (arith, c.if-c-b.true)) c.order_code-o.ensures c.order_code-p.ensures

pub returns-else-c-b : goal.returns-else-c-b
returns-else-c-b c = narrow_none _ _ (λ k p q. absurd (omega (arith, q, c.if-c-b.false)))

pub returns-else-a-d : goal.returns-else-a-d
returns-else-a-d c = narrow_none _ _ (λ k p q. absurd (omega (arith, p, c.if-a-d.false)))
