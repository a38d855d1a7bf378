use Rattle.grammar.specs.Content.{rules_of}
use Rattle.cuts.proofs.PlaceLaws.{Trying}
use Rattle.refilling.proofs.try_kept.Given as goal

abbrev pub invariant-loop-i : goal.invariant-loop-i
invariant-loop-i l = Trying l.rows l.kept l.p l.w (rules_of l.g) l.base l.set l.i-iterator.rest l.u
