use mathlib.Core.Path.{◌≡◌, sym, subst}
use Prim.Native.Nat.{ℕ, ◌<◌}
use native.Mathlib.Omega.{arith}
use lib.ListN.{length, get_or, length-set, length-take}
use lib.Seq.{get_or-take, length-take-le}
use Rattle.grammar.proofs.Lists.{every_at}
use Rattle.grammar.specs.declared.Rule.{Rule}
use Rattle.grammar.specs.Content.{rules_of, SmallRule}
use Rattle.tables.specs.Tables.{no_rule}
use Rattle.links.specs.LinkRules.{Idle, Thinned, thin_none, thin_drop}
use Rattle.links.proofs.ThinLaws.{thin_more, thin_take, thin_from}
use Rattle.links.proofs.link_rules.Goals as goal

-- src/lib.rt:43:5
pub loop-i-init : goal.loop-i-init
loop-i-init c = (
  omega arith,
  omega arith,
  omega
      (arith, c.requires.whole, length-take c.args.g.count c.args.g.rules),
  thin_none,
)

-- src/lib.rt:47:12
pub one_sided-requires : goal.one_sided-requires
one_sided-requires c =
    let l = c.loop-i in
    let g = c.args.g in
    let h : l.i < g.count = c.loop-i-test.true in
    (subst SmallRule (get_or-take g.count g.rules l.i no_rule h)
    (every_at SmallRule no_rule (rules_of g) c.requires.small l.i
    (omega (arith, c.requires.whole)))).clause

-- src/lib.rt:43:5
pub loop-i-preserved-then-one_sided : goal.loop-i-preserved-then-one_sided
loop-i-preserved-then-one_sided c =
    let l = c.loop-i in
    let g = c.args.g in
    let h : l.i < g.count = c.loop-i-test.true in
    let d = c.one_sided.ensures.is c.if-one_sided.true in (
      omega arith,
      omega (arith, l.invariant.1),
      l.invariant.2,
      thin_drop l.invariant.3
          (subst (λ (r : Rule). Idle c.args.one
          r.clause) (sym (get_or-take g.count g.rules l.i no_rule h)) d),
    )

-- src/lib.rt:43:5
pub loop-i-preserved : goal.loop-i-preserved
loop-i-preserved c =
    let l = c.loop-i in
    let g = c.args.g in
    let h : l.i < g.count = c.loop-i-test.true in
    let r = get_or g.rules l.i no_rule in
    let room : l.m < length l.rules = omega (arith, l.invariant.1, l.invariant.2) in (
      omega arith,
      omega (arith, l.invariant.1),
      omega
          (arith, l.invariant.2, length-set l.rules l.m r),
      thin_more r
          (sym (get_or-take g.count g.rules l.i no_rule h)) room l.invariant.3,
    )

-- src/lib.rt:36:1
pub returns : goal.returns
returns c =
    let g = c.args.g in
    let l = c.loop-i in
    let e : l.i ≡ g.count = omega arith in
    let t = subst (λ (x : ℕ). Thinned c.args.one (rules_of g) l.rules x l.m) e l.invariant.3 in
    let u = thin_take l.m (omega arith) t in
    record {
      ruled = record {
        few = omega (arith, c.requires.few, l.invariant.1);
        whole = length-take-le l.m l.rules (omega (arith, l.invariant.1, l.invariant.2));
        small = thin_from SmallRule (λ j h. every_at SmallRule no_rule (rules_of g) c.requires.small
            j
            (omega (arith, c.requires.whole))) u;
      };
      thinned = u;
    }
