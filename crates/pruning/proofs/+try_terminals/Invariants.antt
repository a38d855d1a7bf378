-- The loop's invariant: the words are loose at the token before j, and the terminals before the
-- next one are refuted there; the measure is j.
use mathlib.Core.Path.{◌≡◌}
use lib.ListN.{length}
use Prim.Native.Nat.{◌*◌, ◌≤◌}
use Rattle.grammar.specs.SpanSheet.{pairs}
use Rattle.spans.specs.Changes.{Past}
use Rattle.candidates.specs.Arrays.{cells}
use Rattle.pruning.specs.Refuting.{TerminalOpen, TerminalsTwinned}
use Rattle.grammar.specs.Content.{rules_of}
use Rattle.refilling.specs.Kept.{Mirrored}
use Rattle.pruning.proofs.+try_terminals.Given as goal

abbrev pub decreases-try_terminals : goal.decreases-try_terminals
decreases-try_terminals l = l.j

abbrev pub invariant-loop-x : goal.invariant-loop-x
invariant-loop-x l = Past (2 * pairs l.n) l.initial.words l.words
    × TerminalOpen (rules_of l.g) l.set l.n l.b l.i (cells l.c 0 l.n) l.words
    × TerminalsTwinned (rules_of l.g) l.set l.n l.h l.b l.i l.x (cells l.c 0 l.n) × (l.x ≤ 64)
    × Mirrored (rules_of l.g) l.n l.words l.cuts
    × (length l.cuts ≡ length l.initial.cuts)
