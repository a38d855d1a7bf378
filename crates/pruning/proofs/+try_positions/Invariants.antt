-- The loop's invariant: the words stand, and the positions before the next one are refuted; the
-- measure is how many tokens are left.
use mathlib.Core.Path.{◌≡◌}
use lib.ListN.{length}
use Prim.Native.Nat.{ℕ, ◌-◌, ◌*◌}
use Rattle.grammar.specs.SpanSheet.{pairs}
use Rattle.spans.specs.Changes.{Past}
use Rattle.candidates.specs.Arrays.{cells}
use Rattle.pruning.specs.Refuting.{PositionsFilled, PositionsTwinned}
use Rattle.grammar.specs.Content.{rules_of}
use Rattle.refilling.specs.Kept.{Mirrored}
use Rattle.pruning.proofs.+try_positions.Given as goal

abbrev pub decreases-try_positions : goal.decreases-try_positions
decreases-try_positions l = l.n - l.i

abbrev pub invariant-loop-k : goal.invariant-loop-k
invariant-loop-k l = Past (2 * pairs l.n) l.initial.words l.words
    × PositionsFilled (rules_of l.g) l.n l.i (cells l.c 0 l.n) l.words
    × ((s : ℕ) → PositionsTwinned (rules_of l.g) s l.n l.h l.i l.k (cells l.c 0 l.n))
    × Mirrored (rules_of l.g) l.n l.words l.cuts
    × (length l.cuts ≡ length l.initial.cuts)
