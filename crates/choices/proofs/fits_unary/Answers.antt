-- What the clause asks, one after the other.
use Rattle.sets.proofs.Says.{fails, says_iff}
use Rattle.choices.proofs.fits_unary.Goals as goal

pub returns-then-left-ne0 : goal.returns-then-left-ne0
returns-then-left-ne0 c = fails (λ q. c.if-left-ne0.true q.2)

pub returns-then-not-in_first : goal.returns-then-not-in_first
returns-then-not-in_first c = fails (λ q. c.in_first.ensures.isnt c.if-not-in_first.true q.0)

pub returns : goal.returns
returns c = says_iff (λ h. (
  c.in_first.ensures.is
      c.if-not-in_first.false,
  h,
  c.if-left-ne0.false,
)) (λ q. q.1)
    c.allows_unary.ensures
