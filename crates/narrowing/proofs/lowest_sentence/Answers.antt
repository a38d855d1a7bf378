use mathlib.Core.Path.{refl}
use native.Mathlib.Omega.{arith}
use Rattle.narrowing.proofs.Walking.{laid_none, laid_more, laid_all}
use Rattle.narrowing.proofs.lowest_sentence.Goals as goal

pub loop-i-init : goal.loop-i-init
loop-i-init c = laid_none _ _ c.no_tokens-tokens.ensures

pub bounds-r-i : goal.bounds-r-i
bounds-r-i c =
    omega (arith, c.requires.few, c.loop-i-test.true)

pub loop-i-smaller : goal.loop-i-smaller
loop-i-smaller c = omega (arith, c.loop-i-test.true)

pub loop-i-preserved : goal.loop-i-preserved
loop-i-preserved c =
    laid_more (omega (arith, c.loop-i-test.true, c.requires.few))
    c.loop-i.invariant c.low_token.ensures

pub returns : goal.returns
returns c = (
  refl,
  laid_all c.requires (omega (arith, c.loop-i-test.false))
      c.loop-i.invariant,
)
