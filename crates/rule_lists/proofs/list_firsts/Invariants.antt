-- The loop's invariant: the nonterminals passed have the place of their first rule.
use mathlib.Core.Path.{◌≡◌}
use Prim.Native.Nat.{◌≤◌}
use lib.ListN.{length}
use Rattle.grammar.specs.Content.{rules_of}
use Rattle.rule_lists.specs.RuleLists.{Firsts}
use Rattle.rule_lists.proofs.list_firsts.Given as goal

abbrev pub invariant-loop-a : goal.invariant-loop-a
invariant-loop-a l = (l.a ≤ 64) × (length l.lists ≡ 192) × Firsts (rules_of l.g) l.a l.lists
