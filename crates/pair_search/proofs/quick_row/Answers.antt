use Rattle.pair_search.proofs.RunLaws.{stays}
use Rattle.pair_search.proofs.quick_row.Goals as goal

pub quick_cells-requires : goal.quick_cells-requires
quick_cells-requires c =
    let r = c.requires in record {
      ready = r;
      present = (
        c.present.ensures.is
            c.if-present.true,
        c.node_at-x.ensures.0,
        c.node_at-x.ensures.1,
      );
    }

pub returns : goal.returns
returns c = stays tt
