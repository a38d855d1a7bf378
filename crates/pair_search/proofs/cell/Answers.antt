use Rattle.pair_search.proofs.RunLaws.{no_second, cell_ran, apt}
use Rattle.pair_search.proofs.cell.Goals as goal

pub meet-requires : goal.meet-requires
meet-requires c =
    let r = c.requires in
    let ns = c.args.nodes.now in (
      r.ready.0,
      apt ns c.args.i r.present.1 r.present.2,
      apt ns c.args.j
          c.node_at-y.ensures.0 c.node_at-y.ensures.1,
      r.ready.2,
      r.ready.3,
    )

pub returns-then-present : goal.returns-then-present
returns-then-present c =
    let r = c.requires in
    cell_ran r.ready.2 r.ready.3 r.present.0
    (c.present.ensures.is
    c.if-present.true) r.present.1
    c.node_at-y.ensures.0
    c.meet.ensures

pub returns : goal.returns
returns c = no_second (c.present.ensures.isnt c.if-present.false)
