-- `pair_nodes::put_shape` meets its contract.
use Rattle.pair_nodes.proofs.SlotLaws.{looks_fit, slot_put, slot_none}
use Rattle.pair_nodes.proofs.put_shape.Goals as goal

pub put_looks-requires : goal.put_looks-requires
put_looks-requires c =
    let h = c.head_of-s.ensures in
    record {
      in_bounds = (c.requires.in_bounds.0, h.small, looks_fit c.requires.formed.0 h);
      in_bounds_2 = c.requires.in_bounds_2;
    }

pub returns-then-p-g : goal.returns-then-p-g
returns-then-p-g c =
    slot_put c.requires.formed.0 c.head_of-s.result c.requires.in_bounds_2.1
    c.if-p-g.true c.requires.in_bounds.1
    (rw c.numbered-kind.ensures at c.head_of-s.ensures) c.put_looks.ensures

pub returns : goal.returns
returns c =
    slot_none c.requires.formed.0 c.if-p-g.false
    c.clear_node.ensures
