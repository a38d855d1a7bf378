use Rattle.grammar.specs.Content.{rules_of}
use Rattle.marks.specs.Drafts.{drafted}
use Rattle.chart.proofs.SingleLaws.{PairsWritten}
use Rattle.filling.proofs.fill_leaves.Given as goal

abbrev pub invariant-loop-i : goal.invariant-loop-i
invariant-loop-i l = PairsWritten l.initial.words l.words (rules_of l.g) (drafted l.d) l.d.count l.i
