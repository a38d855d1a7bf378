use Rattle.pair_search.proofs.RunLaws.{stays, ran_of, pair_there, apt}
use Rattle.pair_search.proofs.quick_cell.Goals as goal

pub returns-then-not-present : goal.returns-then-not-present
returns-then-not-present c = stays tt

pub returns-then-not-touched : goal.returns-then-not-touched
returns-then-not-touched c = stays tt

pub quick_meet-requires : goal.quick_meet-requires
quick_meet-requires c =
    let r = c.requires in
    let o = c.node_at-y.ensures in (
      r.ready.0,
      apt c.args.nodes.now c.args.i r.present.1 r.present.2,
      apt c.args.nodes.now c.args.j o.0 o.1,
      r.ready.2,
      r.ready.3,
    )

pub returns-then-quick_meet : goal.returns-then-quick_meet
returns-then-quick_meet c =
    let r = c.requires in
    ran_of
    (pair_there r.ready.2 r.ready.3 r.present.0
    (c.present.ensures.is c.if-not-present.false)
    r.present.1 c.node_at-y.ensures.0) (λ p. tt)
    (rw c.if-quick_meet.true at c.quick_meet.ensures)

pub mark-requires-2 : goal.mark-requires-2
mark-requires-2 c =
    let r = c.requires in
    (r.ready.3, c.node_at-y.ensures.1.sort, r.present.2.sort, r.ready.2)

pub returns : goal.returns
returns c =
    let r = c.requires in
    ran_of
    (pair_there r.ready.2 r.ready.3 r.present.0
    (c.present.ensures.is c.if-not-present.false)
    r.present.1 c.node_at-y.ensures.0) (λ p. tt)
    (rw c.if-quick_meet.false at c.quick_meet.ensures)
