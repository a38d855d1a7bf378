-- `candidates::Candidate::successor` meets its contract. The loop's invariant: of the cells from i
-- on, none come after all that share them up to b.
use Prim.Native.Nat.{◌≤◌}
use Rattle.candidates.proofs.Windows.{LastFrom}
use Rattle.candidates.proofs.Candidate.successor.Given as goal

abbrev pub invariant-loop-i : goal.invariant-loop-i
invariant-loop-i l = (l.i ≤ l.b) × LastFrom l.set l.n l.self l.b l.i
