-- `firsts::fill_rows` meets its contract. The loop's invariant: the rows of the nonterminals below
-- a stand.
use mathlib.Core.Path.{◌≡◌}
use Prim.Native.Nat.{◌≤◌}
use lib.ListN.{length}
use Rattle.firsts.specs.Rows.{TakesRows}
use Rattle.firsts.proofs.fill_rows.Given as goal

abbrev pub invariant-loop-a : goal.invariant-loop-a
invariant-loop-a l =
    (l.a ≤ 64) × (length l.out ≡ length l.initial.out) × TakesRows l.columns l.a l.out
