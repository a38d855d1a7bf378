use Rattle.grammar.specs.Content.{rules_of}
use Rattle.cuts.proofs.PlaceLaws.{Trying}
use Rattle.cuts.proofs.try_places.Given as goal

abbrev pub invariant-loop-i : goal.invariant-loop-i
invariant-loop-i l =
    Trying l.rows l.cols l.p l.w (rules_of l.g) l.base l.set l.i-iterator.rest l.u
