-- The rule that is read at a place of a sheet.
use mathlib.Core.Path.{◌≡◌}
use mathlib.Core.Option.{some}
use Prim.Native.Nat.{ℕ, ◌≤◌, ◌<◌}
use lib.ListN.{length, get_or, get_elem?}
use Rattle.grammar.specs.declared.Rule.{Rule}
use Rattle.grammar.specs.declared.Clause.TheVariants.{Empty}
use Rattle.grammar.specs.declared.Grammar.{Grammar}
use Rattle.grammar.specs.Content.{rules_of}
use Rattle.acyclic.proofs.Growth.{rule_at}

-- what is read where there is no rule: never met
abbrev pub blank : Rule
blank = record { left = 0; clause = Empty }

-- the rule that is read
pub rule : (g : Grammar) (p : ℕ) → length g.rules ≡ 128 → g.count ≤ 128 → p < g.count
    → get_elem? (rules_of g) p ≡ some (get_or g.rules p blank)
rule g p e few h = rule_at g p blank e few h
