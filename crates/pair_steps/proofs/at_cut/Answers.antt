use Rattle.pair_steps.proofs.NarrowLaws.{narrow_none, narrow_as}
use native.Mathlib.Omega.{arith}
use Rattle.pair_steps.proofs.at_cut.Goals as goal

pub returns-then-kids-lt2 : goal.returns-then-kids-lt2
returns-then-kids-lt2 c = narrow_none _ _ (λ k p q. absurd (omega (arith, p, c.if-kids-lt2.true)))

pub returns : goal.returns
returns c =
    narrow_as (λ k p i. p) (λ k p. p (omega (arith, c.if-kids-lt2.false))) c.at_place.ensures
