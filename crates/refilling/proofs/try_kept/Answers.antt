use native.Mathlib.Omega.{arith}
use mathlib.Core.Path.{sym, subst}
use Prim.Native.Nat.{◌+◌}
use Rattle.grammar.proofs.Lists.{every_at}
use Rattle.sets.specs.Sets.{In}
use Rattle.grammar.specs.declared.Rule.{Rule}
use Rattle.grammar.specs.Content.{rules_of, SmallRule}
use Rattle.tables.specs.Tables.{no_rule}
use Rattle.cuts.specs.Counts.{TriedOne}
use Rattle.cuts.specs.Cuts.{CutFits, CutBelow}
use Rattle.cuts.proofs.TryLaws.{cut_more, cut_skip}
use Rattle.cuts.proofs.PlaceLaws.{trying_next, trying_end}
use Rattle.refilling.proofs.try_kept.Goals as goal

pub rule_at-r-requires : goal.rule_at-r-requires
rule_at-r-requires c = record {
  formed = (
    c.requires.formed.0,
    omega (
      arith,
      c.requires.formed.2.within c.in-Some.i
          (c.loop-i.invariant.among c.in-Some.i c.in-Some.ensures.steps.0.member),
      c.requires.formed.0.whole,
    ),
    c.requires.formed.2.binary _
        (c.loop-i.invariant.among c.in-Some.i c.in-Some.ensures.steps.0.member),
  );
  kept_rules = c.requires.kept_rules;
}

pub has-requires : goal.has-requires
has-requires c = (subst SmallRule (sym c.rule_at-r.ensures)
    (every_at SmallRule no_rule (rules_of c.args.g) c.requires.formed.0.small
    (c.args.base + c.in-Some.i)
    (c.requires.formed.2.within c.in-Some.i
    (c.loop-i.invariant.among c.in-Some.i c.in-Some.ensures.steps.0.member)))).left

pub loop-i-preserved-then-has : goal.loop-i-preserved-then-has
loop-i-preserved-then-has c =
    let a = c.args in
    let l = c.loop-i in
    let i = c.in-Some.i in
    rw c.in-Some.ensures.steps.1
    (trying_next a.rows.now a.kept.now a.p a.w (rules_of a.g) c.requires.formed.2 l.invariant
    c.in-Some.ensures.steps.0
    (cut_skip a.rows.now a.kept.now a.p a.w (rules_of a.g) (a.base + i) l.u
    (subst (λ (r : Rule). In l.u.two r.left) c.rule_at-r.ensures
    (c.has.ensures.is c.if-has.true))))

pub try_rule-u-requires : goal.try_rule-u-requires
try_rule-u-requires c = record {
  small_rule = subst SmallRule (sym c.rule_at-r.ensures)
      (every_at SmallRule no_rule (rules_of c.args.g) c.requires.formed.0.small
      (c.args.base + c.in-Some.i)
      (c.requires.formed.2.within c.in-Some.i
      (c.loop-i.invariant.among c.in-Some.i c.in-Some.ensures.steps.0.member)));
  in_bounds = c.requires.in_bounds;
}

pub loop-i-preserved : goal.loop-i-preserved
loop-i-preserved c = let a = c.args in
    let l = c.loop-i in
    let i = c.in-Some.i in
    rw c.in-Some.ensures.steps.1
    (trying_next a.rows.now a.kept.now a.p a.w (rules_of a.g) c.requires.formed.2 l.invariant
    c.in-Some.ensures.steps.0
    (cut_more a.rows.now a.kept.now a.p a.w (rules_of a.g) (a.base + i) l.u
    c.try_rule-u.result
    (subst (λ (r : Rule). TriedOne (CutFits a.rows.now a.kept.now a.p a.w r.clause)
    (CutBelow a.rows.now a.kept.now a.p r.clause) r.left l.u
    c.try_rule-u.result) c.rule_at-r.ensures c.try_rule-u.ensures)))

pub returns : goal.returns
returns c =
    let a = c.args in
    trying_end a.rows.now a.kept.now a.p a.w (rules_of a.g) c.requires.formed.2
    c.loop-i.invariant c.in-None.ensures.steps.0
