-- The number of the first cells, a cell at a time.
use mathlib.Core.Path.{◌≡◌}
use Prim.Native.Nat.{◌≤◌}
use lib.ListN.{take}
use Rattle.candidates.specs.Arrays.{cells}
use Rattle.arrangement_numbers.specs.Blocks.{number_in}
use Rattle.arrangement_numbers.proofs.front_number.Given as goal

abbrev pub invariant-loop-i : goal.invariant-loop-i
invariant-loop-i l = (l.i ≤ l.b) × (l.v ≡ number_in l.set l.n (take l.i (cells l.c 0 l.n)))
