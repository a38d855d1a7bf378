-- Rules by their places: the content of a grammar in the index form.
use mathlib.Core.Path.{◌≡◌}
use Prim.Native.Nat.{ℕ, ◌<◌}
use lib.ListN.{length, get_or}
use lib.Seq.{get_or-take}
use Rattle.grammar.proofs.Lists.{every_at}
use Rattle.grammar.specs.declared.Grammar.{Grammar}
use Rattle.grammar.specs.Trees.{Rules}
use Rattle.grammar.specs.Content.{rules_of, SmallRule, Formed}
use Rattle.tables.proofs.Places.{there}
use Rattle.tables.specs.Tables.{no_rule, rule}
use Rattle.grammar.specs.Distinct.{Alike, Distinct}

-- the rule at a place is small
pub small_at : {g : Grammar} → Formed g → (i : ℕ) → i < length (rules_of g)
    → SmallRule (rule (rules_of g) i)
small_at {g} f i h = every_at SmallRule no_rule (rules_of g) f.small i h

-- two rules that are alike are one
pub distinct_at : {g : Rules} → Distinct g → (i j : ℕ) → i < length g → j < length g
    → (rule g i).left ≡ (rule g j).left → Alike (rule g i).clause (rule g j).clause → i ≡ j
distinct_at {g} d i j h k = d.one i j (rule g i) (rule g j) (there g i h) (there g j k)

-- the rule that the code reads
pub rule_read : (g : Grammar) (i : ℕ) → i < g.count → rule (rules_of g) i ≡ get_or g.rules i no_rule
rule_read g i h = get_or-take g.count g.rules i no_rule h
