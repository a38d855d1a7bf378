-- `printing::put_bytes` meets its contract. The loop's invariant: the first `i` bytes are put.
use Prim.Native.Nat.{◌+◌, ◌≤◌}
use lib.ListN.{length, take}
use Rattle.printing.specs.Printing.{Wrote}
use Rattle.printing.proofs.put_bytes.Given as goal

abbrev pub invariant-loop-i : goal.invariant-loop-i
invariant-loop-i l =
    (l.i ≤ length l.bytes) × Wrote l.initial.out l.out l.at (take l.i l.bytes) (l.at + l.i)
