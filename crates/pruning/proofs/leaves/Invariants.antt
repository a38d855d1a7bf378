-- The loop's invariant: the table has the pairs of the terminals passed, and their union is
-- gathered.
use Prim.Native.Nat.{◌≤◌}
use Rattle.pruning.specs.Tables.{Gathered}
use Rattle.grammar.specs.Content.{rules_of}
use Rattle.pruning.proofs.leaves.Given as goal

abbrev pub invariant-loop-x : goal.invariant-loop-x
invariant-loop-x l =
    (l.x ≤ 64) × Gathered (rules_of l.g) l.set l.x l.initial.table l.table l.any l.twice
