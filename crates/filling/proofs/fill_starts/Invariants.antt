use mathlib.Core.Path.{◌≡◌}
use Prim.Native.Nat.{◌≤◌}
use lib.ListN.{length}
use Rattle.grammar.specs.Content.{rules_of}
use Rattle.marks.specs.Drafts.{half}
use Rattle.chart.specs.Filling.{FilledFrom}
use Rattle.filling.specs.Closing.{Begins, Columns}
use Rattle.filling.proofs.fill_starts.Given as goal

abbrev pub invariant-loop-start : goal.invariant-loop-start
invariant-loop-start l = (l.start ≤ l.d.count)
    × FilledFrom l.initial.words l.words (rules_of l.g) (half l.d) l.d.count l.from l.start
    × (length l.rows ≡ 128)
    × Columns l.words l.d.count l.start l.cols × Begins l.words l.e
    × (length l.cols ≡ length l.initial.cols)
