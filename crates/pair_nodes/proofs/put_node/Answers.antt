-- `pair_nodes::put_node` meets its contract.
use native.Mathlib.Omega.{arith}
use lib.ListN.{length-set}
use Rattle.pair_nodes.proofs.PutLaws.{stored}
use borrow.Author.Rules.{rules}
use Rattle.pair_nodes.proofs.put_node.Goals as goal

pub bounds-out-i-2 : goal.bounds-out-i-2
bounds-out-i-2 c = simp length-set (search rules)

pub bounds-out-i-3 : goal.bounds-out-i-3
bounds-out-i-3 c = simp length-set (search rules)

pub bounds-out-i-4 : goal.bounds-out-i-4
bounds-out-i-4 c = simp length-set (search rules)

pub returns : goal.returns
returns c =
    stored _ _ _ c.requires.0 (omega (arith, c.requires.1, c.requires.2))
