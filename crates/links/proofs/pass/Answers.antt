use mathlib.Core.Path.{◌≡◌, sym, subst}
use Prim.Native.Nat.{ℕ, ◌+◌, ◌-◌, ◌<◌}
use native.Mathlib.Omega.{arith}
use lib.Seq.{get_or-take}
use Rattle.grammar.specs.declared.Rule.{Rule}
use Rattle.grammar.specs.Content.{rules_of, SmallRule}
use Rattle.tables.specs.Tables.{no_rule}
use Rattle.joins.specs.Passes.{WholeSide, Pass, pass_none, pass_more}
use Rattle.links.proofs.pass.Goals as goal

-- src/lib.rt:77:5
pub loop-i-init : goal.loop-i-init
loop-i-init c =
    let a = c.args in (
      omega arith,
      subst (λ (x : ℕ). Pass a.e.one a.e.two a.k a.len (rules_of a.w) a.t x
          a.t) c.requires.whole pass_none,
    )

-- src/lib.rt:78:9
-- src/lib.rt:79:17
pub bounds-w-i : goal.bounds-w-i
bounds-w-i c =
    omega (arith, c.requires.few, c.loop-i.invariant.0, c.loop-i-test.true)

-- src/lib.rt:80:9
pub try_link-u-requires : goal.try_link-u-requires
try_link-u-requires c =
    let w = c.args.w in
    let l = c.loop-i in
    let h : l.i - 1 < w.count = omega (arith, l.invariant.0, c.loop-i-test.true) in
    subst SmallRule (get_or-take w.count w.rules (l.i - 1) no_rule h)
    (c.requires.small (l.i - 1) h)

-- src/lib.rt:77:5
pub loop-i-smaller : goal.loop-i-smaller
loop-i-smaller c = omega arith

-- src/lib.rt:77:5
pub loop-i-preserved : goal.loop-i-preserved
loop-i-preserved c =
    let a = c.args in
    let l = c.loop-i in
    let w = a.w in
    let t = c.loop-i-test.true in
    let h : l.i - 1 < w.count = omega (arith, l.invariant.0, t) in
    let n : l.i ≡ l.i - 1 + 1 = omega (arith, t) in
    let e = sym (get_or-take w.count w.rules (l.i - 1) no_rule h) in (
      omega (arith, l.invariant.0),
      pass_more {u = l.u}
          (subst (λ (x : ℕ). Pass a.e.one a.e.two a.k a.len (rules_of w) a.t x l.u) n
          l.invariant.1) (subst (λ (r : Rule). WholeSide a.e.one a.e.two a.k a.len r.left
          r.clause l.u c.try_link-u.result) e c.try_link-u.ensures),
    )

-- src/lib.rt:71:1
pub returns : goal.returns
returns c =
    let e : c.loop-i.i ≡ 0 = omega (arith, c.loop-i-test.false) in
    rw (← e) c.loop-i.invariant.1
