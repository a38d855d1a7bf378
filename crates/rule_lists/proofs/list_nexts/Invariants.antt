-- The loop's invariant: the rules passed have the place of the next.
use mathlib.Core.Path.{◌≡◌}
use Prim.Native.Nat.{◌≤◌}
use lib.ListN.{length}
use Rattle.grammar.specs.Content.{rules_of}
use Rattle.rule_lists.specs.RuleLists.{Firsts, Nexts}
use Rattle.rule_lists.proofs.list_nexts.Given as goal

abbrev pub invariant-loop-i : goal.invariant-loop-i
invariant-loop-i l =
    (l.i ≤ l.g.count) × (length l.lists ≡ 192) × Firsts (rules_of l.g) 64 l.lists
    × Nexts (rules_of l.g) l.i l.lists
