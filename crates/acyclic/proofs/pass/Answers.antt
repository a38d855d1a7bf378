use mathlib.Core.Path.{◌≡◌}
use borrow.Author.Rules.{rules}
use lib.ListN.{length}
use Rattle.grammar.specs.declared.Rule.{Rule}
use Rattle.grammar.specs.declared.Clause.TheVariants.{Empty}
use Rattle.grammar.specs.Content.{rules_of}
use Rattle.acyclic.proofs.Growth.{passed_more, rule_at}
use Rattle.acyclic.proofs.pass.Goals as goal

-- what is read where there is no rule: never met
abbrev blank : Rule
blank = record { left = 0; clause = Empty }

pub loop-p-preserved : goal.loop-p-preserved
loop-p-preserved g c =
    let a = c.args in
    let k : length a.g.rules ≡ 128 = search rules in
    passed_more (g.met.A.Adding.sound a.x.now (rules_of a.g) c.requires.1) _
    (rule_at a.g c.loop-p.p blank k c.requires.0.few c.loop-p-test.true)
    c.loop-p.invariant c.with_rule-next.ensures
