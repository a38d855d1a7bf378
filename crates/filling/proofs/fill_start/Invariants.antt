use mathlib.Core.Path.{◌≡◌}
use Prim.Native.Nat.{◌+◌, ◌*◌, ◌≤◌, ◌<◌}
use lib.ListN.{length}
use Rattle.grammar.specs.Content.{rules_of}
use Rattle.grammar.specs.SpanSheet.{pairs}
use Rattle.marks.specs.Drafts.{half}
use Rattle.marks.specs.Marked.{Carried}
use Rattle.spans.specs.Changes.{Past}
use Rattle.cuts.specs.Cuts.{Mirrors}
use Rattle.filling.specs.Closing.{Begins}
use Rattle.chart.specs.Filling.{Given, Filled}
use Rattle.filling.proofs.fill_start.Given as goal

abbrev pub invariant-loop-len : goal.invariant-loop-len
invariant-loop-len l =
    (0 < l.len) × (l.start + l.len ≤ l.d.count) × Carried (half l.d) l.start l.len l.k
    × Past (2 * pairs l.d.count) l.initial.words l.words × Given l.initial.words l.words l.d.count
    × Filled l.words (rules_of l.g) (half l.d) l.d.count l.from l.start (l.len + 1)
    × Begins l.words l.e
    × Mirrors l.words l.d.count l.start (l.len + 1) l.rows l.cols
    × (length l.cols ≡ length l.initial.cols)
