-- The loop's invariant: the first that meets it is not before the candidate. The measure is the
-- candidates with the cells that are left.
use Prim.Native.Nat.{◌+◌, ◌-◌, ◌*◌}
use Rattle.grammar.specs.SpanSheet.{pairs}
use Rattle.spans.specs.Changes.{Past}
use Rattle.candidates.specs.Arrays.{cells}
use Rattle.candidates.proofs.Measure.{left}
use Rattle.share_search.specs.Searching.{ShareTurn}
use Rattle.grammar.specs.Content.{rules_of}
use Rattle.refilling.specs.Kept.{Mirrored}
use Rattle.share_search.proofs.search.Given as goal

abbrev pub invariant-loop-g : goal.invariant-loop-g
invariant-loop-g l = ShareTurn (rules_of l.g)
    l.set l.n l.start l.b (cells l.c 0 l.n) × Past (2 * pairs l.n) l.initial.words l.words
    × Mirrored (rules_of l.g) l.n l.words l.cuts

abbrev pub decreases-loop-g : goal.decreases-loop-g
decreases-loop-g l =
    left (cells l.c 0 l.n) * 8 + (l.n - l.b)
