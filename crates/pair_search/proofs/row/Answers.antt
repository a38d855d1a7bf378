use Rattle.pair_search.proofs.RunLaws.{no_first}
use Rattle.pair_search.proofs.row.Goals as goal

pub cells-requires : goal.cells-requires
cells-requires c =
    let r = c.requires in record {
      ready = r;
      present = (
        c.present.ensures.is c.if-present.true,
        c.node_at-x.ensures.0,
        c.node_at-x.ensures.1,
      );
    }

pub returns-then-present : goal.returns-then-present
returns-then-present c = c.cells.ensures

pub returns : goal.returns
returns c = no_first (c.present.ensures.isnt c.if-present.false)
