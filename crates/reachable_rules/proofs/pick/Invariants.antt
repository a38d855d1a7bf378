-- The loop's invariant: of the rules passed those of the set are picked.
use mathlib.Core.Path.{◌≡◌}
use Prim.Native.Nat.{◌≤◌}
use lib.ListN.{length, take}
use Rattle.grammar.specs.Content.{rules_of}
use Rattle.reachable_rules.specs.Steps.{Picked}
use Rattle.reachable_rules.proofs.pick.Given as goal

abbrev pub invariant-loop-i : goal.invariant-loop-i
invariant-loop-i l =
    (l.i ≤ l.g.count) × (l.m ≤ l.i) × (length l.rules ≡ 128)
    × Picked (rules_of l.g) l.set l.i (take l.m l.rules)
