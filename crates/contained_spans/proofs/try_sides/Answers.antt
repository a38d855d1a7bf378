-- Both are put in, or nothing.
use mathlib.Core.Path.{refl}
use Rattle.cuts.proofs.JoinLaws.{joins_then}
use Rattle.contained_spans.specs.Trying.{both, lacks}
use Rattle.contained_spans.proofs.try_sides.Goals as goal

pub returns-then-not-has : goal.returns-then-not-has
returns-then-not-has c =
    lacks refl refl (λ i j. c.has.ensures.isnt c.if-not-has.true i)

pub returns-then-not-has-2 : goal.returns-then-not-has-2
returns-then-not-has-2 c =
    lacks refl refl (λ i j. c.has-2.ensures.isnt c.if-not-has-2.true j)

pub returns : goal.returns
returns c =
    both refl (c.has.ensures.is
    c.if-not-has.false)
    (c.has-2.ensures.is
    c.if-not-has-2.false)
    (joins_then c.add.ensures
    c.add-2.ensures)
