use Rattle.pair_steps.proofs.NarrowLaws.{code_less, code_more, code_equal}
use native.Mathlib.Omega.{arith}
use Rattle.pair_steps.proofs.order_code.Goals as goal

pub returns-then-m-n : goal.returns-then-m-n
returns-then-m-n c = code_less _ _ (omega (arith, c.if-m-n.true))

pub returns-then-n-m : goal.returns-then-n-m
returns-then-n-m c = code_more _ _ (omega (arith, c.if-n-m.true))

pub returns : goal.returns
returns c = code_equal _ _ (omega (arith, c.if-n-m.false, c.if-m-n.false))
