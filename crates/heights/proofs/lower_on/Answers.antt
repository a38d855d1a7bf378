use mathlib.Core.Path.{sym, ◌∙◌}
use Rattle.heights.specs.Falls.{stays}
use Rattle.heights.proofs.FallLaws.{falls_room, falls_then, stopped_of}
use Rattle.heights.proofs.RowLaws.{lefts_formed}
use Rattle.heights.proofs.lower_on.Goals as goal

pub loop-g-init : goal.loop-g-init
loop-g-init c = stays

pub lower_all-more-requires : goal.lower_all-more-requires
lower_all-more-requires c =
    (falls_room (lefts_formed c.requires.1) c.requires.0 c.loop-g.invariant, c.requires.1)

pub shape_of-hs-then-not-more : goal.shape_of-hs-then-not-more
shape_of-hs-then-not-more c = let lf = lefts_formed c.requires.1 in
    (falls_room lf (falls_room lf c.requires.0
    c.loop-g.invariant)
    c.lower_all-more.ensures.falls).long ∙ sym c.requires.0.long

pub returns-then-not-more : goal.returns-then-not-more
returns-then-not-more c = stopped_of c.loop-g.invariant
    c.if-not-more.true c.lower_all-more.ensures
    (lefts_formed c.requires.1)

pub loop-g-smaller : goal.loop-g-smaller
loop-g-smaller c = c.lower_all-more.ensures.fell c.if-not-more.false

pub loop-g-preserved : goal.loop-g-preserved
loop-g-preserved c = falls_then (lefts_formed
    c.requires.1)
    c.loop-g.invariant
    c.lower_all-more.ensures.falls
