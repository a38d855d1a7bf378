-- `pair_nodes::put_looks` meets its contract.
use Rattle.pair_nodes.proofs.PutLaws.{shows}
use Rattle.pair_nodes.proofs.put_looks.Goals as goal

pub node_of-requires : goal.node_of-requires
node_of-requires c =
    (c.requires.in_bounds.0, c.requires.in_bounds.1, rw c.in-Some.is at c.requires.in_bounds.2)

pub returns-in-None : goal.returns-in-None
returns-in-None c =
    let s = c.clear_node.ensures in
    record { before = s.before; by = rw c.in-None.is s.gone }

pub returns-in-Some : goal.returns-in-Some
returns-in-Some c =
    let s = c.put_node.ensures in
    record { before = s.before; by = rw c.in-Some.is (shows c.node_of.ensures s) }
