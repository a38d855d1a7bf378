-- Each test is a fact of the clause; one of the words has two trees, or neither.
use mathlib.Core.Path.{refl}
use mathlib.Core.Bool.{true}
use mathlib.Core.Logic.{inl, inr, ⊎_elim}
use Rattle.sets.proofs.Says.{holds, says_iff}
use Rattle.joins.specs.Passes.Took.{fell, stood}
use Rattle.joins.proofs.try_join.Goals as goal

pub returns-then-not-has : goal.returns-then-not-has
returns-then-not-has c = fell (λ q. c.has.ensures.isnt c.if-not-has.true q.0) refl

pub returns-then-not-has-2 : goal.returns-then-not-has-2
returns-then-not-has-2 c = fell (λ q. c.has-2.ensures.isnt c.if-not-has-2.true q.1) refl

pub returns-then-has : goal.returns-then-has
returns-then-has c =
    stood true (
      c.has.ensures.is c.if-not-has.false,
      c.has-2.ensures.is c.if-not-has-2.false,
    ) (holds (inl (c.has-3.ensures.is c.if-has.true)))
    c.found.ensures

pub returns : goal.returns
returns c =
    stood c.has-4.result (
      c.has.ensures.is c.if-not-has.false,
      c.has-2.ensures.is c.if-not-has-2.false,
    )
    (says_iff inr (⊎_elim (λ z. absurd (c.has-3.ensures.isnt c.if-has.false z))
    (λ z. z)) c.has-4.ensures) c.found-2.ensures
