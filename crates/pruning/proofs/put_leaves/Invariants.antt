-- The loop's invariant: the tokens passed have their pairs. The empty word's is written last.
use mathlib.Core.Path.{◌≡◌}
use lib.ListN.{length}
use Rattle.candidates.specs.Arrays.{cells}
use Rattle.pruning.specs.Tables.{LeavesPutTo}
use Rattle.grammar.specs.Content.{rules_of}
use Rattle.refilling.specs.Kept.{Mirrored}
use Rattle.pruning.proofs.put_leaves.Given as goal

abbrev pub invariant-loop-i : goal.invariant-loop-i
invariant-loop-i l =
    LeavesPutTo l.table (cells l.c 0 l.n) l.n l.b l.i l.initial.words l.words
    × Mirrored (rules_of l.g) l.n l.words l.cuts
    × (length l.cuts ≡ length l.initial.cuts)
