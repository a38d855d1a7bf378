-- `put_doubts` meets its contract. The invariant: the lines of the first `i` entries are put.
use Prim.Native.Nat.{◌+◌, ◌*◌, ◌≤◌}
use lib.ListN.{take}
use Rattle.printing.specs.Printing.{Wrote}
use Rattle.always_text.specs.Always.{doubt_lines}
use Rattle.always_text.proofs.put_doubts.Given as goal

abbrev pub invariant-loop-i : goal.invariant-loop-i
invariant-loop-i l =
    (l.i ≤ l.count) × (l.next ≤ l.at + 18 * l.i) × Wrote l.initial.out l.out l.at
    (doubt_lines (take (4 * l.i) l.list)) l.next
