use native.Mathlib.Omega.{arith}
use Rattle.pair_offsets.proofs.SayLaws.{same_one, same_off, same_two}
use Rattle.pair_offsets.proofs.same.Goals as goal

pub returns-then-a-eq0 : goal.returns-then-a-eq0
returns-then-a-eq0 c =
    same_one _ _ _ _ _ (omega (arith, c.if-p-q.true)) (omega (arith, c.if-a-eq0.true))

pub returns-then-p-q : goal.returns-then-p-q
returns-then-p-q c =
    same_off _ _ _ _ _ (omega (arith, c.if-p-q.true)) (λ e. omega (arith, e, c.if-a-eq0.false))

pub returns : goal.returns
returns c = same_two _ _ _ _ _ (λ e. omega (arith, e, c.if-p-q.false))
