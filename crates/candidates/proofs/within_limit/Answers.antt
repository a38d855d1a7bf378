use mathlib.Core.Path.{◌≡◌}
use borrow.Author.Rules.{rules}
use native.Mathlib.Omega.{arith}
use borrow.Author.Tests.{leb-true, leb-false}
use Rattle.grammar.specs.Sweeps.{arrangements}
use Rattle.candidates.proofs.Limit.{partly_one, partly_more, limit_over, limit_end}
use Rattle.candidates.proofs.Limit.{factor_small, start_small, product_small}
use Rattle.candidates.proofs.within_limit.Goals as goal

pub overflow_mul-factor-2 : goal.overflow_mul-factor-2
overflow_mul-factor-2 c = omega (arith, factor_small c.args.t c.args.k c.requires.0 c.requires.2)

pub overflow_mul-m : goal.overflow_mul-m
overflow_mul-m c = omega (arith, start_small c.args.t c.args.k c.requires.0 c.requires.2)

pub loop-i-init : goal.loop-i-init
loop-i-init c = (omega arith, c.requires.1, partly_one _ _)

pub returns-then-m-gt-LIMIT : goal.returns-then-m-gt-LIMIT
returns-then-m-gt-LIMIT c = limit_over _ _ _ _ _ c.loop-i.invariant.0 c.loop-i.invariant.1
    c.loop-i.invariant.2 c.if-m-gt-LIMIT.true

pub overflow_mul-m-in-loop-i : goal.overflow_mul-m-in-loop-i
overflow_mul-m-in-loop-i c = omega (
  arith,
  product_small c.loop-i.m _ c.if-m-gt-LIMIT.false
      (factor_small c.args.t c.args.k c.requires.0
      c.requires.2),
)

pub loop-i-preserved : goal.loop-i-preserved
loop-i-preserved c =
    (omega arith, search rules, partly_more _ _ _ _ c.loop-i.invariant.0 c.loop-i.invariant.2)

pub returns : goal.returns
returns c =
    let e : c.loop-i.m ≡ arrangements c.args.t c.args.k =
    limit_end _ _ _ _ (omega (arith, c.loop-i.invariant.1, c.loop-i-test.false))
    c.loop-i.invariant.2 in
    record { is = λ q. omega (arith, leb-true); isnt = λ q h. omega (arith, leb-false) }
