-- `doubt_marks::may` meets its contract.
use Rattle.sets.proofs.Says.{fails}
use Rattle.doubt_marks.proofs.StandLaws.{other_sort, other_frame, may_says}
use Rattle.doubt_marks.proofs.may.Goals as goal

pub returns-then-not-present : goal.returns-then-not-present
returns-then-not-present c = fails (λ m. c.present.ensures.isnt c.if-not-present.true m.there₁)

pub returns-then-not-present-2 : goal.returns-then-not-present-2
returns-then-not-present-2 c = fails (λ m. c.present-2.ensures.isnt c.if-not-present-2.true
    m.there₂)

pub returns-then-x-y : goal.returns-then-x-y
returns-then-x-y c =
    fails (other_sort c.node_at-x.ensures.0
    c.node_at-y.ensures.0 c.if-x-y.true)

pub returns-then-not-suits : goal.returns-then-not-suits
returns-then-not-suits c =
    fails
    (other_frame c.node_at-x.ensures.0
    c.node_at-y.ensures.0
    (c.suits.ensures.isnt c.if-not-suits.true))

pub stands-requires : goal.stands-requires
stands-requires c = record {
  room = (
    record { room = c.args.t.room },
    c.node_at-x.ensures.1,
    c.node_at-y.ensures.1,
    c.requires.in_bounds.0,
    c.requires.in_bounds.1,
  );
  evens = c.requires.evens;
}

pub returns : goal.returns
returns c =
    may_says c.node_at-x.ensures.0
    c.node_at-y.ensures.0
    (c.present.ensures.is
    c.if-not-present.false)
    (c.present-2.ensures.is c.if-not-present-2.false)
    c.if-x-y.false
    (c.suits.ensures.is c.if-not-suits.false)
    c.stands.ensures
