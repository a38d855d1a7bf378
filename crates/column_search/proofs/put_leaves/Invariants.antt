-- The loop's invariant: the pairs of the first i tokens are written.
use Rattle.grammar.specs.Content.{rules_of}
use Rattle.marks.specs.Drafts.{drafted}
use Rattle.chart.proofs.SingleLaws.{PairsWritten}
use Rattle.refilling.specs.Kept.{Mirrored}
use Rattle.column_search.proofs.put_leaves.Given as goal

abbrev pub invariant-loop-i : goal.invariant-loop-i
invariant-loop-i l =
    PairsWritten l.initial.words l.words (rules_of l.g) (drafted l.d) l.d.count l.i
    × Mirrored (rules_of l.g) l.d.count l.words l.kept
