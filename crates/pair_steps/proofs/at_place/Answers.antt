use Rattle.pair_steps.proofs.NarrowLaws.{narrow_and, narrow_none}
use native.Mathlib.Omega.{arith}
use Rattle.pair_steps.proofs.at_place.Goals as goal

pub returns-then-p-r : goal.returns-then-p-r
returns-then-p-r c = narrow_and _ _ _ (λ k p. p (omega (arith, c.if-p-r.true))) (λ k i p. i)

pub returns : goal.returns
returns c = narrow_none _ _ (λ k p. absurd (omega (arith, p, c.if-p-r.false)))
