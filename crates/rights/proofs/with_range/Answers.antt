-- `with_range` meets its contract: the numbers below i are in the set.
use native.Mathlib.Omega.{arith}
use Rattle.rights.proofs.Ranges.{upto_start, upto_more, upto_end}
use Rattle.rights.proofs.with_range.Goals as goal

pub loop-i-init : goal.loop-i-init
loop-i-init c = (upto_start _ _, omega arith)

pub loop-i-preserved : goal.loop-i-preserved
loop-i-preserved c =
    (upto_more _ _ _ _ _ c.loop-i.invariant.0 c.with-out.ensures, omega arith)

pub returns : goal.returns
returns c = upto_end _ _ _ _ _ c.loop-i.invariant.0 (omega arith)

pub returns-2 : goal.returns-2
returns-2 c =
    upto_end _ _ _ _ _ (upto_more _ _ _ _ _ c.loop-i.invariant.0 c.with-out.ensures) (omega arith)
