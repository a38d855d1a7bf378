-- `lengths::sums` meets its contract. The loop's invariant: `r` has the sums with the members of s
-- below i.
use Prim.Native.Nat.{◌≤◌}
use Rattle.lengths.specs.Passes.{SumTo, Has}
use Rattle.lengths.proofs.sums.Given as goal

abbrev pub invariant-loop-i : goal.invariant-loop-i
invariant-loop-i l = (l.i ≤ 8) × Has (SumTo l.s l.t l.i) l.r
