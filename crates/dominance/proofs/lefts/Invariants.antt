-- The loop's invariant: the set has the lefts of the rules passed.
use lib.ListN.{take}
use Rattle.grammar.specs.Content.{rules_of}
use Rattle.dominance.specs.Dominance.{Lefts}
use Rattle.dominance.proofs.lefts.Given as goal

abbrev pub invariant-loop-r : goal.invariant-loop-r
invariant-loop-r l = Lefts (take l.r-index (rules_of l.fn.g)) l.fn.a l.set
