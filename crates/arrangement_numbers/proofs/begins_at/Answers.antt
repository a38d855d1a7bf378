-- `arrangement_numbers::begins_at` meets its contract: the lesser of the share and the remainder,
-- by a test.
use native.Mathlib.Omega.{arith}
use Rattle.arrangement_numbers.proofs.ShareLaws.{begins_low, begins_high, product_small}
use Rattle.arrangement_numbers.proofs.ShareLaws.{remainder_small}
use Rattle.arrangement_numbers.proofs.begins_at.Goals as goal

pub overflow_mul-result : goal.overflow_mul-result
overflow_mul-result c =
    omega (arith, product_small c.args.m c.args.p c.args.i c.requires.0 c.requires.2)

pub overflow_add-result : goal.overflow_add-result
overflow_add-result c =
    omega (
      arith,
      product_small c.args.m c.args.p c.args.i c.requires.0 c.requires.2,
      remainder_small c.args.m c.args.p c.requires.1,
      c.requires.0,
      c.requires.2,
    )

pub returns-then-i-r : goal.returns-then-i-r
returns-then-i-r c = let a = c.args in
    omega (arith, begins_low a.m a.p a.i (omega (arith, c.if-i-r.true)))

pub overflow_mul-result-2 : goal.overflow_mul-result-2
overflow_mul-result-2 c =
    omega (arith, product_small c.args.m c.args.p c.args.i c.requires.0 c.requires.2)

pub overflow_add-result-2 : goal.overflow_add-result-2
overflow_add-result-2 c =
    omega (
      arith,
      product_small c.args.m c.args.p c.args.i c.requires.0 c.requires.2,
      remainder_small c.args.m c.args.p c.requires.1,
      c.requires.0,
    )

pub returns : goal.returns
returns c = let a = c.args in
    omega (arith, begins_high a.m a.p a.i (omega (arith, c.if-i-r.false)))
