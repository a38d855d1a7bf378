-- The loop's invariant: the columns before the next one are tried, and the spans behind the token
-- and those before `from` are as they were; the measure is by how much the ends stand apart.
use Prim.Native.Nat.{◌+◌}
use Rattle.grammar.specs.Content.{rules_of}
use Rattle.column_ranges.specs.RangeSentences.{ranges_of}
use Rattle.narrowing.proofs.Choices.{slack}
use Rattle.range_charts.specs.RangeCharts.{Behind}
use Rattle.column_search.proofs.Searching.{Turn}
use Rattle.column_search.proofs.+search_few.Given as goal

abbrev pub decreases-search_few : goal.decreases-search_few
decreases-search_few l = slack (ranges_of l.r)

abbrev pub invariant-loop-i : goal.invariant-loop-i
invariant-loop-i l =
    Turn (rules_of l.g) (ranges_of l.r) l.r.count l.t l.i l.initial.found l.initial.words l.words
    l.found
    × Behind l.words l.kept (rules_of l.g) (ranges_of l.r) l.r.count l.from (l.t + 1)
