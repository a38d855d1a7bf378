use Prim.Native.Nat.{◌-◌}
use Rattle.pair_nodes.specs.Slots.{NodesOf}
use Rattle.pair_search.specs.Running.{Ran, LastCells}
use Rattle.pair_search.proofs.cells.Given as goal

abbrev pub invariant-loop-j : goal.invariant-loop-j
invariant-loop-j l =
    Ran (λ g. NodesOf g l.nodes) (LastCells l.nodes l.i l.n (384 - l.j)) l.initial.words l.words
    l.still
