use mathlib.Core.Path.{sym, subst}
use Prim.Native.Nat.{◌+◌, ◌<◌}
use native.Mathlib.Omega.{arith}
use lib.Seq.{get_or-take}
use Rattle.grammar.proofs.Lists.{every_at}
use Rattle.sets.specs.Sets.{In}
use Rattle.grammar.specs.declared.Rule.{Rule}
use Rattle.grammar.specs.Content.{rules_of, SmallRule}
use Rattle.tables.specs.Tables.{no_rule}
use Rattle.cuts.specs.Counts.{TriedOne}
use Rattle.cuts.specs.Cuts.{CutFits, CutBelow}
use Rattle.cuts.proofs.TryLaws.{cut_more, cut_skip}
use Rattle.cuts.proofs.PlaceLaws.{trying_next, trying_full}
use Rattle.cuts.proofs.PlaceLaws.{trying_end}
use Rattle.cuts.proofs.try_places.Goals as goal

pub has-requires : goal.has-requires
has-requires c =
    let a = c.args in
    let g = a.g in
    let l = c.loop-i in
    let i = c.in-Some.i in
    let m = c.in-Some.ensures.steps.0 in
    let y = c.requires.formed.2.within i (l.invariant.among i m.member) in
    let h : a.base + i < g.count = omega (arith, c.requires.formed.0.whole) in
    (subst SmallRule (get_or-take g.count g.rules (a.base + i) _ h)
    (every_at SmallRule _ (rules_of g) c.requires.formed.0.small (a.base + i)
    (omega (arith, c.requires.formed.0.whole)))).left

pub returns-then-covers : goal.returns-then-covers
returns-then-covers c =
    let a = c.args in
    let l = c.loop-i in
    trying_full a.rows.now a.cols.now a.p a.w (rules_of a.g) c.requires.formed.2 l.invariant
    c.requires.lefts_at (c.covers.ensures c.if-covers.true)

pub loop-i-preserved-then-has : goal.loop-i-preserved-then-has
loop-i-preserved-then-has c =
    let a = c.args in
    let g = a.g in
    let l = c.loop-i in
    let i = c.in-Some.i in
    let m = c.in-Some.ensures.steps.0 in
    let y = c.requires.formed.2.within i (l.invariant.among i m.member) in
    let h : a.base + i < g.count = omega (arith, c.requires.formed.0.whole) in
    rw c.in-Some.ensures.steps.1
    (trying_next a.rows.now a.cols.now a.p a.w (rules_of g) c.requires.formed.2 l.invariant m
    (cut_skip a.rows.now a.cols.now a.p a.w (rules_of g) (a.base + i) l.u
    (subst (λ (r : Rule). In l.u.two r.left)
    (sym (get_or-take g.count g.rules (a.base + i) no_rule h))
    (c.has.ensures.is c.if-has.true))))

pub try_rule-u-requires : goal.try_rule-u-requires
try_rule-u-requires c =
    let a = c.args in
    let g = a.g in
    let l = c.loop-i in
    let i = c.in-Some.i in
    let m = c.in-Some.ensures.steps.0 in
    let y = c.requires.formed.2.within i (l.invariant.among i m.member) in
    let h : a.base + i < g.count = omega (arith, c.requires.formed.0.whole) in record {
      small_rule = subst SmallRule (get_or-take g.count g.rules (a.base + i) _ h)
          (every_at SmallRule _ (rules_of g) c.requires.formed.0.small (a.base + i)
          (omega (arith, c.requires.formed.0.whole)));
      in_bounds = c.requires.in_bounds;
    }

pub loop-i-preserved : goal.loop-i-preserved
loop-i-preserved c =
    let a = c.args in
    let g = a.g in
    let l = c.loop-i in
    let i = c.in-Some.i in
    let m = c.in-Some.ensures.steps.0 in
    let y = c.requires.formed.2.within i (l.invariant.among i m.member) in
    let h : a.base + i < g.count = omega (arith, c.requires.formed.0.whole) in
    rw c.in-Some.ensures.steps.1
    (trying_next a.rows.now a.cols.now a.p a.w (rules_of g) c.requires.formed.2 l.invariant m
    (cut_more a.rows.now a.cols.now a.p a.w (rules_of g) (a.base + i) l.u
    c.try_rule-u.result
    (subst (λ (r : Rule). TriedOne (CutFits a.rows.now a.cols.now a.p a.w r.clause)
    (CutBelow a.rows.now a.cols.now a.p r.clause) r.left l.u
    c.try_rule-u.result) (sym (get_or-take g.count g.rules (a.base + i) no_rule h))
    c.try_rule-u.ensures)))

pub returns : goal.returns
returns c =
    let a = c.args in
    trying_end a.rows.now a.cols.now a.p a.w (rules_of a.g) c.requires.formed.2
    c.loop-i.invariant c.in-None.ensures.steps.0
