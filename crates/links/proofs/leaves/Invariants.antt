-- The loop's invariant: the rules passed are tried.
use Prim.Native.Nat.{◌≤◌}
use Rattle.grammar.specs.Content.{rules_of}
use Rattle.joins.specs.Passes.{Leaves}
use Rattle.links.proofs.leaves.Given as goal

abbrev pub invariant-loop-i : goal.invariant-loop-i
invariant-loop-i l = (l.i ≤ l.g.count) × Leaves l.k l.len (rules_of l.g) l.i l.t
