use native.Mathlib.Omega.{arith}
use Rattle.pair_steps.proofs.TokenLaws.{min_low, min_high, tokens-most}
use Rattle.pair_steps.proofs.tokens_most.Goals as goal

pub returns-then-f : goal.returns-then-f
returns-then-f c = tokens-most (min_low _ _ c.if-f.true) c.tokens_at.ensures

pub returns : goal.returns
returns c =
    tokens-most (min_high _ _ (λ h. omega (arith, c.if-f.false))) c.tokens_at-2.ensures
