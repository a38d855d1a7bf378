-- The loop's invariant: the columns before the next one are tried; the measure is by how much the
-- ends stand apart.
use Rattle.grammar.specs.Content.{rules_of}
use Rattle.column_ranges.specs.RangeSentences.{ranges_of}
use Rattle.narrowing.proofs.Choices.{slack}
use Rattle.range_charts.specs.RangeCharts.{Beside}
use Rattle.column_search.proofs.Searching.{Turn}
use Rattle.column_search.proofs.+search.Given as goal

abbrev pub decreases-search : goal.decreases-search
decreases-search l = slack (ranges_of l.r)

abbrev pub invariant-loop-c : goal.invariant-loop-c
invariant-loop-c l =
    Turn (rules_of l.g) (ranges_of l.r) l.r.count l.t l.c l.initial.found l.initial.words l.words
    l.found
    × Beside (rules_of l.g) l.r.count l.words l.kept
