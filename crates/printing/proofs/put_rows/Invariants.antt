-- `printing::put_rows` meets its contract. The loop's invariant: the lines of the first `i` rows
-- are put.
use Prim.Native.Nat.{◌+◌, ◌*◌, ◌≤◌}
use lib.ListN.{take}
use Rattle.printing.specs.Printing.{Wrote, row_lines}
use Rattle.printing.proofs.put_rows.Given as goal

abbrev pub invariant-loop-i : goal.invariant-loop-i
invariant-loop-i l =
    (l.i ≤ l.count) × (l.next ≤ l.at + 26 * l.i) × Wrote l.initial.out l.out l.at
    (row_lines l.tree (take (4 * l.i) l.rows)) l.next
