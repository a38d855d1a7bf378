-- What the clause asks, one after the other.
use native.Mathlib.Nat.{not-le_of_lt}
use Rattle.sets.proofs.Says.{fails, says_iff}
use Rattle.choices.proofs.fits_binary.Goals as goal

pub returns-then-len-left : goal.returns-then-len-left
returns-then-len-left c = fails (λ q. not-le_of_lt c.if-len-left.true q.0)

pub returns-then-not-in_first : goal.returns-then-not-in_first
returns-then-not-in_first c = fails (λ q. c.in_first.ensures.isnt c.if-not-in_first.true q.1)

pub returns-then-not-in_first-2 : goal.returns-then-not-in_first-2
returns-then-not-in_first-2 c = fails (λ q. c.in_first-2.ensures.isnt c.if-not-in_first-2.true q.2)

pub returns : goal.returns
returns c =
    says_iff (λ h. (
      c.if-len-left.false,
      c.in_first.ensures.is
          c.if-not-in_first.false,
      c.in_first-2.ensures.is
          c.if-not-in_first-2.false,
      h,
    )) (λ q. q.3) c.allows_binary.ensures
