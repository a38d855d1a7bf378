use Rattle.pair_steps.proofs.NarrowLaws.{narrow_and, narrow_none}
use native.Mathlib.Omega.{arith}
use Rattle.pair_steps.proofs.inside.Goals as goal

pub returns-then-c-j : goal.returns-then-c-j
returns-then-c-j c =
    narrow_and _ _ _ (λ k p. p (omega (arith, c.if-i-c.true))
    (omega (arith, c.if-c-j.true))) (λ k i p q. i)

pub returns-else-c-j : goal.returns-else-c-j
returns-else-c-j c = narrow_none _ _ (λ k p q. absurd (omega (arith, q, c.if-c-j.false)))

pub returns-else-i-c : goal.returns-else-i-c
returns-else-i-c c = narrow_none _ _ (λ k p q. absurd (omega (arith, p, c.if-i-c.false)))
