use native.Mathlib.Omega.{arith}
use Rattle.sets.proofs.Says.{fails, says_iff, says_ltb}
use Rattle.pair_frames.proofs.amid.Goals as goal

pub returns-then-i-p : goal.returns-then-i-p
returns-then-i-p c =
    says_iff (λ h. record { low = c.if-i-p.true; high = h }) (λ h. h.high) (says_ltb _ _)

pub returns : goal.returns
returns c = fails (λ h. omega (arith, h.low, c.if-i-p.false))
