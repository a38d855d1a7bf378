-- The loop's invariant: all spans that begin at or past `start` are solved.
use Prim.Native.Nat.{◌≤◌}
use Rattle.grammar.specs.Content.{rules_of}
use Rattle.column_ranges.specs.RangeSentences.{ranges_of}
use Rattle.range_charts.specs.RangeCharts.{Advances, Beside}
use Rattle.range_charts.proofs.fill_between.Given as goal

abbrev pub invariant-loop-start : goal.invariant-loop-start
invariant-loop-start l =
    (l.lo ≤ l.start) × (l.start ≤ l.r.count)
    × Advances l.initial.words l.words (rules_of l.g) (ranges_of l.r) l.r.count l.from l.start
    × Beside (rules_of l.g) l.r.count l.words l.kept
