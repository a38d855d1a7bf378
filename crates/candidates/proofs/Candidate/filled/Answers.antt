use native.Mathlib.Omega.{arith}
use borrow.Author.Rules.{rules}
use Rattle.candidates.proofs.Windows.{filled_end, filled_turn}
use Rattle.candidates.proofs.Candidate.filled.Goals as goal

pub loop-i-init : goal.loop-i-init
loop-i-init c = (search rules, λ r f. f)

pub loop-i-preserved : goal.loop-i-preserved
loop-i-preserved c = (
  omega (arith, c.loop-i-test.true),
  λ r f. c.loop-i.invariant.1 r
      (filled_turn _ _ _ _ _ r c.loop-i-test.true c.lowered-c.ensures f),
)

pub returns : goal.returns
returns c = c.loop-i.invariant.1 _ (filled_end _ _ _ _ c.loop-i-test.false)
