use Prim.Native.Nat.{◌-◌}
use Rattle.pair_nodes.specs.Slots.{NodesOf}
use Rattle.pair_search.specs.Running.{Ran, LastRows}
use Rattle.pair_search.proofs.pass.Given as goal

abbrev pub invariant-loop-k : goal.invariant-loop-k
invariant-loop-k l =
    Ran (λ g. NodesOf g l.nodes) (LastRows l.nodes l.n (384 - l.k)) l.initial.words l.words l.still
