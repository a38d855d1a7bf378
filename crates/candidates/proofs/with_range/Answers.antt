use Prim.Native.Nat.{◌+◌}
use mathlib.Core.Path.{refl}
use mathlib.Core.Logic.{inl, inr, ⊎_elim}
use native.Mathlib.Omega.{arith}
use Rattle.candidates.proofs.TerminalSets.{reached_none, reached_more, reached_all}
use Rattle.candidates.proofs.with_range.Goals as goal

pub loop-i-init : goal.loop-i-init
loop-i-init c = (inl refl, reached_none _ _)

pub loop-i-preserved : goal.loop-i-preserved
loop-i-preserved c = (
  inr (omega arith),
  reached_more _ _ _ _ _ (omega arith) c.loop-i.invariant.1 c.with-u.ensures,
)

-- after the last number
pub returns-2 : goal.returns-2
returns-2 c =
    reached_all _ _ _ (c.loop-i.i + 1) _ (omega arith) (inr (omega arith))
    (reached_more _ _ _ _ _ (omega arith) c.loop-i.invariant.1 c.with-u.ensures)

pub returns : goal.returns
returns c =
    reached_all _ _ _ c.loop-i.i _ c.loop-i-test.false
    (⊎_elim inl (λ h. inr (omega arith)) c.loop-i.invariant.0) c.loop-i.invariant.1
