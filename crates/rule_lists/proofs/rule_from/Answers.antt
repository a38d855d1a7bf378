use mathlib.Core.Path.{sym, ap, ◌∙◌}
use native.Mathlib.Omega.{arith}
use Rattle.grammar.specs.declared.Rule.{Rule}
use Rattle.grammar.specs.Content.{rules_of}
use Rattle.tables.proofs.RulePlaces.{rule_read}
use Rattle.rule_lists.proofs.ListLaws.{none_first, none_more, none_found, none_end}
use Rattle.rule_lists.proofs.rule_from.Goals as goal

pub loop-i-init : goal.loop-i-init
loop-i-init c = (c.requires.1, none_first (rules_of c.args.g) c.args.a c.args.from)

pub offset_bounds-g-i : goal.offset_bounds-g-i
offset_bounds-g-i c = omega (arith, c.requires.0.few)

pub bounds-g-i : goal.bounds-g-i
bounds-g-i c = omega (arith, c.requires.0.few)

pub returns-then-r-a : goal.returns-then-r-a
returns-then-r-a c = none_found c.loop-i.invariant.1
    (ap (λ (r : Rule). r.left) (rule_read c.args.g
    c.loop-i.i c.loop-i-test.true)
    ∙ c.if-r-a.true)

pub loop-i-preserved : goal.loop-i-preserved
loop-i-preserved c = (
  omega (arith, c.loop-i-test.true),
  none_more
      c.loop-i.invariant.1
      (λ e. c.if-r-a.false (sym (ap (λ (r : Rule). r.left)
      (rule_read c.args.g
      c.loop-i.i
      c.loop-i-test.true)) ∙ e)),
)

pub returns : goal.returns
returns c = none_end 128 c.loop-i.invariant.1
    (omega (arith, c.loop-i-test.false, c.requires.0.whole))
    (omega (arith, c.loop-i.invariant.0, c.requires.0.few))
