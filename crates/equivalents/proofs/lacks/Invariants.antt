-- `equivalents::lacks` meets its contract. The loop's invariant: the columns counted so far and
-- those to be counted from j down are all of them.
use mathlib.Core.Path.{◌≡◌}
use mathlib.Core.Bool.{false}
use Prim.Native.Nat.{◌+◌, ◌≤◌}
use Rattle.candidates.specs.Arrays.{cells}
use Rattle.equivalents.specs.Twins.{lacking}
use Rattle.equivalents.proofs.lacks.Given as goal

abbrev pub invariant-loop-j : goal.invariant-loop-j
invariant-loop-j l = (l.j ≤ l.n)
    × (lacking l.n false (cells l.c 0 l.h) (cells l.c 0 l.b) ≡ l.v
    + lacking l.j l.w (cells l.c 0 l.h) (cells l.c 0 l.b))
