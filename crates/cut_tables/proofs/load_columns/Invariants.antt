-- The loop's invariant: the trees that begin before `start` are put in.
use Prim.Native.Nat.{◌≤◌}
use Rattle.cuts.specs.Joining.{Joins}
use Rattle.cut_tables.specs.Tables.{StartBits}
use Rattle.cut_tables.proofs.load_columns.Given as goal

abbrev pub invariant-loop-start : goal.invariant-loop-start
invariant-loop-start l =
    (l.start ≤ l.n) × Joins (StartBits l.words l.n l.start) l.initial.cuts l.cuts
