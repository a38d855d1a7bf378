use Prim.Native.Nat.{◌≤◌}
use lib.ListN.{length}
use Rattle.grammar.specs.Content.{rules_of}
use Rattle.links.specs.LinkRules.{Thinned}
use Rattle.links.proofs.link_rules.Given as goal

abbrev pub invariant-loop-i : goal.invariant-loop-i
invariant-loop-i l =
    (l.i ≤ l.g.count) × (l.m ≤ l.i) × (l.g.count ≤ length l.rules)
    × Thinned l.one (rules_of l.g) l.rules l.i l.m
