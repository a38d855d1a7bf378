use Rattle.pair_search.specs.Running.{Quick}
use Rattle.pair_search.proofs.quick_cells.Given as goal

abbrev pub invariant-loop-j : goal.invariant-loop-j
invariant-loop-j l = Quick l.nodes l.initial.words l.words l.still
