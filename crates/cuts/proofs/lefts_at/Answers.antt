use mathlib.Core.Path.{ap, subst}
use Prim.Native.Nat.{◌+◌, ◌<◌}
use native.Mathlib.Omega.{arith}
use lib.Seq.{get_or-take}
use Rattle.grammar.proofs.Lists.{every_at}
use Rattle.grammar.specs.declared.Rule.{Rule}
use Rattle.grammar.specs.Content.{rules_of, SmallRule}
use Rattle.tables.specs.Tables.{no_rule}
use Rattle.cuts.proofs.PlaceLaws.{lefting_more, lefting_end}
use Rattle.cuts.proofs.lefts_at.Goals as goal

pub with-lefts-requires : goal.with-lefts-requires
with-lefts-requires c =
    let a = c.args in
    let g = a.g in
    let l = c.loop-i in
    let i = c.in-Some.i in
    let m = c.in-Some.ensures.steps.0 in
    let y = c.requires.2.within i (l.invariant.among i m.member) in
    let h : a.base + i < g.count = omega (arith, c.requires.0.whole) in
    (subst SmallRule (get_or-take g.count g.rules (a.base + i) _ h)
    (every_at SmallRule _ (rules_of g) c.requires.0.small (a.base + i)
    (omega (arith, c.requires.0.whole)))).left

pub loop-i-preserved : goal.loop-i-preserved
loop-i-preserved c =
    let a = c.args in
    let g = a.g in
    let l = c.loop-i in
    let i = c.in-Some.i in
    let m = c.in-Some.ensures.steps.0 in
    let y = c.requires.2.within i (l.invariant.among i m.member) in
    let h : a.base + i < g.count = omega (arith, c.requires.0.whole) in
    rw c.in-Some.ensures.steps.1 (lefting_more m (ap (λ (r : Rule). r.left)
    (get_or-take g.count g.rules (a.base + i) no_rule h)) c.with-lefts.ensures l.invariant)

pub returns : goal.returns
returns c = lefting_end c.in-None.ensures.steps.0 c.loop-i.invariant
