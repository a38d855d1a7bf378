-- Each test is a fact of the clause.
use mathlib.Core.Path.{refl}
use Rattle.joins.specs.Passes.Took.{fell, stood}
use Rattle.joins.proofs.try_unary.Goals as goal

pub returns-then-not-has : goal.returns-then-not-has
returns-then-not-has c = fell (λ q. c.has.ensures.isnt c.if-not-has.true q.0) refl

pub returns-then-not-allows_unary : goal.returns-then-not-allows_unary
returns-then-not-allows_unary c =
    fell (λ q. c.allows_unary.ensures.isnt c.if-not-allows_unary.true q.1) refl

pub returns : goal.returns
returns c =
    stood c.has-2.result (
      c.has.ensures.is c.if-not-has.false,
      c.allows_unary.ensures.is c.if-not-allows_unary.false,
    ) c.has-2.ensures c.found.ensures
