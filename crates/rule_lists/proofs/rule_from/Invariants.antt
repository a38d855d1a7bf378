-- The loop's invariant: no rule passed is one of `a`.
use Prim.Native.Nat.{◌≤◌}
use Rattle.grammar.specs.Content.{rules_of}
use Rattle.rule_lists.proofs.ListLaws.{NoneTo}
use Rattle.rule_lists.proofs.rule_from.Given as goal

abbrev pub invariant-loop-i : goal.invariant-loop-i
invariant-loop-i l = (l.i ≤ l.g.count) × NoneTo (rules_of l.g) l.a l.from l.i
