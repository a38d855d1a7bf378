use Rattle.pair_search.specs.Running.{Quick}
use Rattle.pair_search.proofs.quick_pass.Given as goal

abbrev pub invariant-loop-i : goal.invariant-loop-i
invariant-loop-i l = Quick l.nodes l.initial.words l.words l.still
