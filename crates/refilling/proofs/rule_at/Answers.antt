use native.Mathlib.Omega.{arith}
use Rattle.grammar.proofs.Lists.{every_at}
use Rattle.grammar.specs.Content.{rules_of, SmallRule}
use Rattle.tables.specs.Tables.{no_rule, rule}
use Rattle.refilling.specs.Kept.{rule_at_of, RuleWords}
use Rattle.refilling.proofs.KeptLaws.{rule_of, FewWords, few_words}
use Prim.Native.Nat.{◌<◌}
use lib.ListN.{length}
use Rattle.refilling.proofs.rule_at.Lts
use Rattle.refilling.proofs.rule_at.Reads
use Rattle.refilling.proofs.rule_at.Tie
use Rattle.refilling.proofs.rule_at.Goals as goal

own : (c : Lts.Start Tie.the-claims Reads.Pre Reads.Post Tie.handed_clauses)
    → RuleWords c.args.kept.now (rule_at_of c.args.i)
    (rule (rules_of c.args.g) c.args.i)
own c = c.requires.kept_rules.each c.args.i
    (omega (arith, c.requires.formed.0.whole, c.requires.formed.1))
    c.requires.formed.2

few : (c : Lts.Start Tie.the-claims Reads.Pre Reads.Post Tie.handed_clauses)
    → FewWords c.args.kept.now (rule_at_of c.args.i)
few c =
    let h : c.args.i < length (rules_of c.args.g) =
    omega (arith, c.requires.formed.0.whole, c.requires.formed.1) in
    few_words c.args.kept.now (rule_at_of c.args.i) (rule (rules_of c.args.g) c.args.i)
    (every_at SmallRule no_rule (rules_of c.args.g) c.requires.formed.0.small c.args.i h)
    (own c)

pub overflow_cast-clause : goal.overflow_cast-clause
overflow_cast-clause c = omega (arith, (few c.before.before.before.before.before).first)

pub overflow_cast-clause-2 : goal.overflow_cast-clause-2
overflow_cast-clause-2 c = omega (arith, (few c.before.before.before.before.before.before).second)

pub overflow_cast-result : goal.overflow_cast-result
overflow_cast-result c =
    omega (arith, (few c.before.before.before.before.before.before.before).left)

pub returns : goal.returns
returns c = rule_of c.args.kept.now (rule_at_of c.args.i) (rule (rules_of c.args.g) c.args.i)
    c.mark_of-m.result c.mark_of-m.ensures
    (own c.before.before.before.before.before.before.before)
