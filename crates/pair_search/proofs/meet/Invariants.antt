use Rattle.pair_search.specs.Running.{PairOf, Ran, Met}
use Rattle.pair_search.proofs.meet.Given as goal

abbrev pub invariant-loop-k : goal.invariant-loop-k
invariant-loop-k l =
    Ran (PairOf l.x l.y l.i l.j) (Met l.x l.y l.i l.j l.k) l.initial.words l.words l.still
