use mathlib.Core.Path.{◌≡◌, sym, subst}
use Prim.Native.Nat.{◌<◌}
use native.Mathlib.Omega.{arith}
use lib.ListN.{length}
use lib.Seq.{get_or-take}
use Rattle.grammar.specs.declared.Rule.{Rule}
use Rattle.grammar.specs.Content.{rules_of, SmallRule}
use Rattle.tables.specs.Tables.{no_rule}
use Rattle.joins.specs.Passes.{Took, LeafFits, Leaves, leaves_none, leaves_more}
use Rattle.links.proofs.leaves.Goals as goal

pub loop-i-init : goal.loop-i-init
loop-i-init c =
    let a = c.args in (
      omega arith,
      subst (Leaves a.k a.len (rules_of a.g) 0) (sym c.blank-t.ensures)
          leaves_none,
    )

pub bounds-g-i : goal.bounds-g-i
bounds-g-i c = omega (arith, c.requires.few, c.loop-i-test.true)

pub try_leaf-t-requires : goal.try_leaf-t-requires
try_leaf-t-requires c =
    let g = c.args.g in
    let i = c.loop-i.i in
    let h : i < g.count = c.loop-i-test.true in
    subst SmallRule (get_or-take g.count g.rules i no_rule h) (c.requires.small i h)

pub loop-i-preserved : goal.loop-i-preserved
loop-i-preserved c =
    let a = c.args in
    let l = c.loop-i in
    let g = a.g in
    let h : l.i < g.count = c.loop-i-test.true in
    let e = sym (get_or-take g.count g.rules l.i no_rule h) in (
      omega arith,
      leaves_more l.invariant.1
          (subst (λ (r : Rule). Took (LeafFits a.k a.len r.clause) ⊥ r.left l.t
          c.try_leaf-t.result) e c.try_leaf-t.ensures),
    )

pub returns : goal.returns
returns c =
    let e : c.loop-i.i ≡ length (rules_of c.args.g) =
    omega (arith, c.requires.whole, c.loop-i-test.false) in
    rw (← e) c.loop-i.invariant.1
