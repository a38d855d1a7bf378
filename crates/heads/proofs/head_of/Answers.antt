-- `heads::head_of` meets its contract.
use mathlib.Core.Path.{◌≡◌}
use mathlib.Core.Option.{some}
use Prim.Native.Nat.{ℕ, ◌<◌}
use lib.ListN.{length, get_or, get_elem?}
use Rattle.grammar.specs.declared.Grammar.{Grammar}
use Rattle.grammar.specs.declared.Rule.{Rule}
use Rattle.grammar.specs.declared.Clause.TheVariants.{Empty}
use Rattle.grammar.specs.Content.{rules_of, Formed}
use Rattle.acyclic.proofs.Growth.{rule_at, small_at}
use Rattle.survey.proofs.Weakest.{level_weakest, level_nothing}
use Rattle.heads.proofs.FormLaws.{shaped_none, shaped_by}
use Rattle.heads.proofs.head_of.Goals as goal

-- what is read where there is no rule: never met
abbrev blank : Rule
blank = record { left = 0; clause = Empty }

-- the rule that is read
rule : (g : Grammar) (p : ℕ) → length g.rules ≡ 128 → Formed g × (p < g.count)
    → get_elem? (rules_of g) p ≡ some (get_or g.rules p blank)
rule g p e f = rule_at g p blank e f.0.few f.1

pub level_of-requires : goal.level_of-requires
level_of-requires c = (small_at c.requires.formed.0 _
    (rule c.args.g c.args.p c.well_formed.0.1.1.0.1.0.1 c.requires.formed)).left

pub form_by-looks-requires : goal.form_by-looks-requires
form_by-looks-requires c =
    (small_at c.requires.formed.0 _
    (rule c.args.g c.args.p c.well_formed.0.1.1.0.1.0.1 c.requires.formed)).clause

pub returns-in-None : goal.returns-in-None
returns-in-None c =
    let i = rw c.in-None.is at c.level_of.ensures in
    shaped_none c.requires.exactly.0 c.requires.exactly.1 c.args.kind c.args.p _
    (rule c.args.g c.args.p c.well_formed.0.1.1.0.1.0.1 c.requires.formed)
    (small_at c.requires.formed.0 _
    (rule c.args.g c.args.p c.well_formed.0.1.1.0.1.0.1 c.requires.formed)).left
    (level_nothing c.requires.exactly.2 _ i)

pub returns-in-Some : goal.returns-in-Some
returns-in-Some c =
    let i = rw c.in-Some.is at
    c.level_of.ensures in
    shaped_by c.requires.exactly.0 c.requires.exactly.1 c.args.kind c.args.p _
    (rule c.args.g c.args.p c.well_formed.0.1.1.0.1.0.1 c.requires.formed)
    (small_at c.requires.formed.0 _
    (rule c.args.g c.args.p c.well_formed.0.1.1.0.1.0.1 c.requires.formed)).left
    _ (level_weakest c.requires.exactly.2 _ _ i) c.form_by-looks.result c.form_by-looks.ensures
