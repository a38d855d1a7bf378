use Rattle.pair_steps.proofs.NarrowLaws.{narrow_none, narrow_as}
use native.Mathlib.Omega.{arith}
use Rattle.pair_steps.proofs.at_stop.Goals as goal

pub returns-then-b-d : goal.returns-then-b-d
returns-then-b-d c =
    let l = c.if-b-d.true in
    narrow_as (λ k p i j. (λ h. p, λ h. absurd (omega (arith, h, l))))
    (λ k p.
    (p (omega (arith, c.if-a-d.true))
    (omega (arith, c.if-c-b.true))).0 (omega (arith, l))) c.at_place.ensures

pub returns-then-d-b : goal.returns-then-d-b
returns-then-d-b c =
    let l = c.if-d-b.true in
    narrow_as (λ k p i j. (λ h. absurd (omega (arith, h, l)), λ h. p))
    (λ k p. (p (omega (arith, c.if-a-d.true)) (omega (arith, c.if-c-b.true))).1
    (omega (arith, l))) c.at_place-then-d-b.ensures

pub returns-else-d-b : goal.returns-else-d-b
returns-else-d-b c =
    narrow_none _ _
    (λ k i j. (
      λ h. absurd (omega (arith, h, c.if-b-d.false)),
      λ h. absurd
          (omega (arith, h, c.if-d-b.false)),
    ))

pub returns-else-c-b : goal.returns-else-c-b
returns-else-c-b c = narrow_none _ _ (λ k i j. absurd (omega (arith, j, c.if-c-b.false)))

pub returns-else-a-d : goal.returns-else-a-d
returns-else-a-d c = narrow_none _ _ (λ k i. absurd (omega (arith, i, c.if-a-d.false)))
