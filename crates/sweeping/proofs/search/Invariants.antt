-- The search meets its contract. Outer loop: no shorter candidate has two trees. Inner loop: no
-- earlier one has; its measure is the candidates with the cells that are left.
use Prim.Native.Nat.{◌+◌, ◌-◌, ◌*◌, ◌≤◌}
use Rattle.grammar.specs.SpanSheet.{pairs}
use Rattle.spans.specs.Changes.{Past}
use Rattle.candidates.specs.Arrays.{cells}
use Rattle.candidates.proofs.Measure.{left}
use Rattle.sweeping.specs.Searching.{NoneShorter, SweepTurn}
use Rattle.grammar.specs.Content.{rules_of}
use Rattle.refilling.specs.Kept.{Prepared, Mirrored}
use Rattle.sweeping.proofs.search.Given as goal

abbrev pub invariant-loop-c : goal.invariant-loop-c
invariant-loop-c l = SweepTurn (rules_of l.g) l.set l.n l.b
    (cells l.c 0 l.n) × Past (2 * pairs l.n) l.initial.words l.words
    × Mirrored (rules_of l.g) l.n l.words l.cuts

abbrev pub decreases-loop-c : goal.decreases-loop-c
decreases-loop-c l =
    left (cells l.c 0 l.n) * 8 + (l.n - l.b)

abbrev pub invariant-loop-n : goal.invariant-loop-n
invariant-loop-n l = (l.n ≤ l.k + 1) × NoneShorter (rules_of l.g) l.set l.n
    × Past (2 * pairs l.k) l.initial.words l.words × Prepared (rules_of l.g) l.cuts
