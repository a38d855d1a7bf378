-- `pair_nodes::node_at` meets its contract.
use mathlib.Core.Path.{refl}
use native.Mathlib.Omega.{arith}
use Rattle.pair_nodes.proofs.node_at.Goals as goal

pub returns : goal.returns
returns c = (refl, record { sort = omega arith; first = omega arith; second = omega arith })
