use Prim.Native.Nat.{◌≤◌}
use Rattle.grammar.specs.Content.{rules_of}
use Rattle.refilling.specs.Turning.{SetRules}
use Rattle.refilling.proofs.set_rules.Given as goal

abbrev pub invariant-loop-i : goal.invariant-loop-i
invariant-loop-i l = (l.i ≤ l.g.count) × SetRules (rules_of l.g) l.initial.kept l.kept l.i
