-- The loop's invariant: the nonterminals passed are tried.
use Prim.Native.Nat.{◌≤◌, ◌<◌}
use Rattle.grammar.specs.Content.{rules_of}
use Rattle.row_counts.specs.Nulls.{NullsTried}
use Rattle.row_counts.proofs.null_pass.Given as goal

abbrev pub invariant-loop-a : goal.invariant-loop-a
invariant-loop-a l = (l.a ≤ 64) × NullsTried (rules_of l.g) (λ B. B < l.a) l.initial.z l.z l.more
