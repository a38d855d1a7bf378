use mathlib.Core.Path.{sym, ◌∙◌}
use Rattle.sets.proofs.Says.{true_not_false}
use Rattle.chains.proofs.ChainLaws.{level_three, level_two, level_one, level_none}
use Rattle.chains.proofs.level_of.Goals as goal

pub returns-then-k : goal.returns-then-k
returns-then-k c = level_three _ c.if-k.true

pub returns-then-allows_unary : goal.returns-then-allows_unary
returns-then-allows_unary c = level_two _ (λ s. true_not_false (sym s ∙ c.if-k.false))
    (c.allows_unary.ensures.is c.if-allows_unary.true)

pub returns-then-allows_unary-2 : goal.returns-then-allows_unary-2
returns-then-allows_unary-2 c = level_one _ (λ s. true_not_false (sym s ∙ c.if-k.false))
    (c.allows_unary.ensures.isnt c.if-allows_unary.false)
    (c.allows_unary-2.ensures.is c.if-allows_unary-2.true)

pub returns : goal.returns
returns c = level_none _ (λ s. true_not_false (sym s ∙ c.if-k.false))
    (c.allows_unary.ensures.isnt c.if-allows_unary.false)
    (c.allows_unary-2.ensures.isnt c.if-allows_unary-2.false)
