-- Two tests.
use mathlib.Core.Path.{sym}
use Rattle.sets.proofs.Says.{true_not_false}
use Rattle.grammar.specs.Content.{rules_of}
use Rattle.dominance.proofs.LeftSets.{serves_of}
use Rattle.dominance.proofs.serves.Goals as goal

pub returns-then-not-has : goal.returns-then-not-has
returns-then-not-has c = λ e. absurd (true_not_false (sym e))

pub returns : goal.returns
returns c =
    let a = c.args in
    λ e. serves_of (rules_of a.g) a.kept a.s c.lefts-t.result a.y
    (c.has.ensures.is c.if-not-has.false) c.lefts-t.ensures
    (c.within.ensures e)
