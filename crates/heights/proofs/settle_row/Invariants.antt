-- The loop's invariant: the spans passed are done.
use Rattle.grammar.specs.Content.{rules_of}
use Rattle.marks.specs.Drafts.{drafted}
use Rattle.heights.specs.Filled.{Filled}
use Rattle.heights.proofs.settle_row.Given as goal

abbrev pub invariant-loop-start : goal.invariant-loop-start
invariant-loop-start l =
    Filled l.hs (rules_of l.g) (drafted l.d) l.start l.len
