-- The loop's invariant: the marks of the span so far, and what is solved.
use Prim.Native.Nat.{◌+◌, ◌*◌, ◌≤◌, ◌<◌}
use Rattle.grammar.specs.Content.{rules_of}
use Rattle.grammar.specs.SpanSheet.{pairs}
use Rattle.spans.specs.Changes.{Past}
use Rattle.column_ranges.specs.RangeSentences.{ranges_of}
use Rattle.range_marks.proofs.Stretching.{RangeCarried}
use Rattle.range_charts.specs.RangeCharts.{SolvedFrom, Small, Beside}
use Rattle.range_charts.proofs.fill_start.Given as goal

abbrev pub invariant-loop-len : goal.invariant-loop-len
invariant-loop-len l =
    (0 < l.len) × (l.start + l.len ≤ l.r.count) × RangeCarried (ranges_of l.r) l.start l.len l.k
    × Past (2 * pairs l.r.count) l.initial.words l.words × Small l.initial.words l.words l.r.count
    × SolvedFrom l.words (rules_of l.g) (ranges_of l.r) l.r.count l.from l.start (l.len + 1)
    × Beside (rules_of l.g) l.r.count l.words l.kept
