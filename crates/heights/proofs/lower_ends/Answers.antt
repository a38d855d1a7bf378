-- One end, then the other.
use Rattle.heights.proofs.FallLaws.{lefts_one, falls_room, ends_both, no_empty_side_none}
use Rattle.heights.proofs.lower_ends.Goals as goal

pub no_empty_side-requires : goal.no_empty_side-requires
no_empty_side-requires c = (c.requires.0.long, c.requires.1.clause)

pub returns-then-no_empty_side : goal.returns-then-no_empty_side
returns-then-no_empty_side c = no_empty_side_none c.args.k c.args.r c.requires.1.left
    (c.no_empty_side.ensures c.if-no_empty_side.true)

pub lower-a-requires : goal.lower-a-requires
lower-a-requires c = c.requires

pub lower-b-requires : goal.lower-b-requires
lower-b-requires c = (
  falls_room (lefts_one c.args.r c.requires.1.left) c.requires.0
      c.lower-a.ensures.falls,
  c.requires.1,
)

pub returns : goal.returns
returns c = ends_both (lefts_one c.args.r c.requires.1.left) c.requires.0 0
    c.lower-a.ensures
    c.lower-b.ensures c.either.ensures
