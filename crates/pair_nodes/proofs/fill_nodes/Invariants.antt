-- `pair_nodes::fill_nodes` meets its contract.
use mathlib.Core.Path.{◌≡◌}
use Prim.Native.Nat.{◌≤◌}
use lib.ListN.{length}
use Rattle.grammar.specs.Content.{rules_of}
use Rattle.pair_nodes.specs.Putting.{SlotsTo}
use Rattle.pair_nodes.proofs.fill_nodes.Given as goal

abbrev pub invariant-loop-i : goal.invariant-loop-i
invariant-loop-i l =
    (l.i ≤ 384) × (length l.out ≡ length l.initial.out) × SlotsTo (rules_of l.g) l.out l.i
