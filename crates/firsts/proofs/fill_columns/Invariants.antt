-- `firsts::fill_columns` meets its contract. The loop's invariant: the sets of the terminals below
-- x stand.
use mathlib.Core.Path.{◌≡◌}
use Prim.Native.Nat.{◌≤◌}
use lib.ListN.{length}
use Rattle.grammar.specs.Content.{rules_of}
use Rattle.firsts.specs.Rows.{ByTerminal}
use Rattle.firsts.proofs.fill_columns.Given as goal

abbrev pub invariant-loop-x : goal.invariant-loop-x
invariant-loop-x l =
    (l.x ≤ 64) × (length l.out ≡ length l.initial.out) × ByTerminal (rules_of l.g) l.x l.out
