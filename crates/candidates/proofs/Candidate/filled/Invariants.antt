-- `candidates::Candidate::filled` meets its contract. The loop's invariant: what is filled from
-- here on is filled from the start on.
use Prim.Native.Nat.{◌≤◌}
use Rattle.candidates.specs.declared.Candidate.{Candidate}
use Rattle.candidates.specs.Windows.{Filled}
use Rattle.candidates.proofs.Candidate.filled.Given as goal

abbrev pub invariant-loop-i : goal.invariant-loop-i
invariant-loop-i l =
    (l.i ≤ l.n) × ((r : Candidate) → Filled l.set l.n l.c l.i r
    → Filled l.set l.n l.initial.c l.initial.i r)
