use native.Mathlib.Omega.{arith}
use mathlib.Core.Path.{sym, subst}
use lib.Seq.{get_or-take}
use Rattle.grammar.specs.Content.{rules_of}
use Rattle.tables.specs.Tables.{no_rule}
use Rattle.refilling.specs.Kept.{rule_at_of}
use Rattle.refilling.specs.Turning.{SetRule, SetRules}
use Rattle.refilling.proofs.KeptLaws.{set_none, set_more}
use Rattle.refilling.proofs.set_rules.Goals as goal

pub loop-i-init : goal.loop-i-init
loop-i-init c = (omega arith, set_none _ _)

pub bounds-g-i : goal.bounds-g-i
bounds-g-i c = omega (arith, c.loop-i-test.true, c.requires.formed.few)

pub set_rule-requires : goal.set_rule-requires
set_rule-requires c = (
  omega (
    arith,
    c.loop-i-test.true,
    c.requires.formed.few,
  ),
  omega (
    arith,
    c.loop-i.invariant.1.size,
    c.requires.in_bounds,
  ),
)

pub loop-i-smaller : goal.loop-i-smaller
loop-i-smaller c = omega (arith, c.loop-i-test.true)

pub loop-i-preserved : goal.loop-i-preserved
loop-i-preserved c =
    let g = c.args.g in
    let l = c.loop-i in
    let i = l.i in (
      omega (arith, c.loop-i-test.true),
      set_more l.invariant.1
          (subst (SetRule l.kept c.set_rule.new.kept (rule_at_of i))
          (sym (get_or-take g.count g.rules i no_rule
          (omega (arith, c.loop-i-test.true))))
          c.set_rule.ensures),
    )

pub shape_of-kept : goal.shape_of-kept
shape_of-kept c = c.loop-i.invariant.1.size

pub returns : goal.returns
returns c =
    let l = c.loop-i in
    let a = c.args in
    subst (SetRules (rules_of a.g) a.kept.now l.kept)
    (omega (arith, c.loop-i-test.false, l.invariant.0)) l.invariant.1
