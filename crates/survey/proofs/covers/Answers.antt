-- `survey::covers` meets its contract.
use native.Mathlib.Omega.{arith}
use Rattle.sets.proofs.Says.{says_iff, says_leb}
use Rattle.survey.proofs.covers.Goals as goal

pub returns-then-a-x : goal.returns-then-a-x
returns-then-a-x c =
    says_iff (λ h. record { low = c.if-a-x.true; high = h }) (λ h. h.high) (says_leb _ _)

pub returns-else-a-x : goal.returns-else-a-x
returns-else-a-x c =
    says_iff (λ h. absurd (omega (arith, h, c.if-a-x.false))) (λ h. h.low) (says_leb _ _)
