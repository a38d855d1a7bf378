-- `put_places` meets its contract. The loop's invariant: the lines of the first `i` places are put.
use Prim.Native.Nat.{◌+◌, ◌*◌, ◌≤◌}
use lib.ListN.{take}
use Rattle.printing.specs.Printing.{Wrote}
use Rattle.text_trees.specs.Places.{place_lines}
use Rattle.text_trees.proofs.put_places.Given as goal

abbrev pub invariant-loop-i : goal.invariant-loop-i
invariant-loop-i l =
    (l.i ≤ l.count) × (l.next ≤ l.at + 12 * l.i) × Wrote l.initial.out l.out l.at
    (place_lines (take (3 * l.i) l.list)) l.next
