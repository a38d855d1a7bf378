-- The loop's invariant: no rule that stands is passed.
use Rattle.choices.specs.Searches.{Reached}
use Rattle.choices.proofs.next_rule.Given as goal

abbrev pub invariant-loop-rule : goal.invariant-loop-rule
invariant-loop-rule l =
    Reached l.words l.g l.n l.start l.len l.k l.a l.fn.from.rule l.fn.from.left l.rule l.least
