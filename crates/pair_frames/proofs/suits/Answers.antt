use native.Mathlib.Omega.{arith}
use Rattle.sets.proofs.Says.{fails, says_iff}
use Rattle.pair_frames.proofs.suits.Goals as goal

pub returns-then-f : goal.returns-then-f
returns-then-f c = fails (λ h. omega (arith, h.nonempty₁, c.if-f.true))

pub returns-then-f-2 : goal.returns-then-f-2
returns-then-f-2 c = fails (λ h. omega (arith, h.nonempty₂, c.if-f-2.true))

pub returns-then-f-3 : goal.returns-then-f-3
returns-then-f-3 c = fails (λ h. omega (arith, h.before, c.if-f-3.true))

pub returns-then-f-4 : goal.returns-then-f-4
returns-then-f-4 c = fails (λ h. omega (arith, h.behind, c.if-f-4.true))

pub returns-then-placed : goal.returns-then-placed
returns-then-placed c =
    says_iff
    (λ h.
    record {
      nonempty₁ = omega arith;
      nonempty₂ = omega arith;
      before = omega arith;
      behind = omega arith;
      placed₁ = c.placed.ensures.is c.if-placed.true;
      placed₂ = h;
    })
    (λ h. h.placed₂) c.placed-then-placed.ensures

pub returns : goal.returns
returns c = fails (λ h. c.placed.ensures.isnt c.if-placed.false h.placed₁)
