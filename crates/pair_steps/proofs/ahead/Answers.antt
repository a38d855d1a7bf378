use Rattle.pair_steps.proofs.NarrowLaws.{narrow_and, narrow_none}
use native.Mathlib.Omega.{arith}
use Rattle.pair_steps.proofs.ahead.Goals as goal

pub returns-then-a-b : goal.returns-then-a-b
returns-then-a-b c = narrow_and _ _ _ (λ k p. p (omega (arith, c.if-a-b.true))) (λ k i p. i)

pub returns : goal.returns
returns c = narrow_none _ _ (λ k p. absurd (omega (arith, p, c.if-a-b.false)))
