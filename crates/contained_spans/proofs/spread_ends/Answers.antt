-- Nothing, or both ends.
use native.Mathlib.Omega.{arith}
use Rattle.spans.proofs.Places.{pair_at_below}
use Rattle.contained_spans.proofs.EndLaws.{ends_none}
use Rattle.contained_spans.proofs.spread_ends.Goals as goal

pub bounds-words-0 : goal.bounds-words-0
bounds-words-0 c =
    let w = c.requires.room.0 in
    let f = pair_at_below c.args.n c.args.start c.args.len w.fits in
    omega (arith, f, w.enough)

pub returns-then-not-has-2 : goal.returns-then-not-has-2
returns-then-not-has-2 c =
    ends_none (c.has.ensures.isnt
    c.if-not-has.true)
    (c.has-then-not-has.ensures.isnt c.if-not-has-2.true)
