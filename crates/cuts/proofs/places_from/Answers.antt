use mathlib.Core.Path.{◌≡◌, sym, subst}
use Prim.Native.Nat.{ℕ, ◌+◌, ◌<◌}
use native.Mathlib.Omega.{arith}
use lib.Seq.{get_or-take}
use Rattle.grammar.specs.declared.Rule.{Rule}
use Rattle.grammar.specs.Content.{rules_of}
use Rattle.tables.specs.Tables.{no_rule}
use Rattle.cuts.specs.Places.{WithPlace, PlacedAt}
use Rattle.cuts.proofs.PlaceLaws.{placed_none, placed_more, placed_end}
use Rattle.cuts.proofs.places_from.Goals as goal

pub loop-i-init : goal.loop-i-init
loop-i-init c = (omega arith, placed_none _ _)

pub overflow_add-at : goal.overflow_add-at
overflow_add-at c = omega (arith, c.requires.1, c.loop-i-test.true)

pub returns-then-g-at : goal.returns-then-g-at
returns-then-g-at c =
    placed_end (omega (arith, c.if-g-at.true, c.requires.0.whole)) c.loop-i.invariant.1

pub bounds-g-at : goal.bounds-g-at
bounds-g-at c = omega (arith, c.if-g-at.false, c.requires.0.few)

pub with_place-set-requires : goal.with_place-set-requires
with_place-set-requires c = c.loop-i-test.true

pub loop-i-smaller : goal.loop-i-smaller
loop-i-smaller c = omega (arith, c.loop-i-test.true)

pub loop-i-preserved : goal.loop-i-preserved
loop-i-preserved c =
    let l = c.loop-i in
    let g = c.args.g in
    let h : c.args.base + l.i < g.count = omega (arith, c.if-g-at.false) in (
      omega (arith, c.loop-i-test.true),
      placed_more
          (omega (arith, c.requires.0.whole))
          (subst (λ (r : Rule). WithPlace l.set l.i r.clause c.with_place-set.result)
          (sym (get_or-take g.count g.rules (c.args.base + l.i) no_rule h))
          c.with_place-set.ensures) l.invariant.1,
    )

pub returns : goal.returns
returns c =
    let l = c.loop-i in
    let a = c.args in
    subst (λ (x : ℕ). PlacedAt (rules_of a.g) a.base x l.set)
    (let z : l.i ≡ 64 = omega (arith, l.invariant.0, c.loop-i-test.false) in z) l.invariant.1
