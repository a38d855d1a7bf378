use mathlib.Core.Path.{◌≡◌}
use native.Mathlib.Omega.{arith}
use borrow.Author.Rules.{rules}
use lib.ListN.{length}
use Rattle.grammar.specs.declared.Rule.{Rule}
use Rattle.grammar.specs.declared.Clause.TheVariants as Clause
use Rattle.printing.proofs.Writing.{wrote_none, wrote_then}
use Rattle.rule_text.proofs.Lines.{rules_more}
use Rattle.rule_text.proofs.put_rules.Goals as goal

abbrev no_rule : Rule
no_rule = record { left = 0; clause = Clause.Empty }

pub loop-i-init : goal.loop-i-init
loop-i-init c = (search rules, search rules, wrote_none _ _)

pub loop-i-preserved : goal.loop-i-preserved
loop-i-preserved c =
    let n : length c.args.g.rules ≡ 128 = search rules in
    let w = c.put_rule-next.ensures in (
      search rules,
      omega (arith, w.upper_bound, c.loop-i.invariant.1),
      rw (rules_more c.args.g.rules c.loop-i.i no_rule (omega (arith, c.requires)))
          (wrote_then c.loop-i.invariant.2 w.wrote),
    )

pub returns : goal.returns
returns c =
    let l = c.loop-i in
    let e : l.i ≡ c.args.g.count = omega (arith, l.invariant.0, c.loop-i-test) in
    record { wrote = rw e at l.invariant.2; upper_bound = rw e at l.invariant.1 }
