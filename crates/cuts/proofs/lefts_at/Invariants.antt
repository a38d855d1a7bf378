-- The loop's invariant: the lefts of the places passed are there.
use Rattle.grammar.specs.Content.{rules_of}
use Rattle.cuts.proofs.PlaceLaws.{Lefting}
use Rattle.cuts.proofs.lefts_at.Given as goal

abbrev pub invariant-loop-i : goal.invariant-loop-i
invariant-loop-i l = Lefting (rules_of l.g) l.base l.set l.i-iterator.rest l.lefts
