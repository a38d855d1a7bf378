-- `pair_nodes::clear_node` meets its contract.
use native.Mathlib.Omega.{arith}
use Rattle.pair_nodes.proofs.PutLaws.{cleared}
use Rattle.pair_nodes.proofs.clear_node.Goals as goal

pub returns : goal.returns
returns c = cleared _ _ (omega (arith, c.requires.0, c.requires.1))
