use mathlib.Core.Path.{refl, sym, ◌∙◌, subst}
use Prim.Native.Nat.{◌<◌}
use native.Mathlib.Omega.{arith}
use Rattle.grammar.specs.Content.{rules_of, SmallRule}
use Rattle.tables.proofs.RulePlaces.{small_at, rule_read}
use Rattle.heights.specs.Falls.{Between}
use Rattle.heights.proofs.FallLaws.{falls_room, passed_none, passed_by, passed_in}
use Rattle.heights.proofs.FallLaws.{inner_more}
use Rattle.heights.proofs.RowLaws.{lefts_formed}
use Rattle.heights.proofs.lower_inner.Goals as goal

pub loop-i-init : goal.loop-i-init
loop-i-init c = (
  omega arith,
  passed_none (lefts_formed c.requires.1) _
      (λ j q h d t. omega (arith, d.0)),
)

pub offset_bounds-g-i : goal.offset_bounds-g-i
offset_bounds-g-i c = omega (arith, c.requires.1.few, c.loop-i-test.true)

pub bounds-g-i : goal.bounds-g-i
bounds-g-i c = omega (arith, c.requires.1.few, c.loop-i-test.true)

pub lower_split-more-requires : goal.lower_split-more-requires
lower_split-more-requires c =
    let g = c.args.g in
    let h : c.loop-i.i < g.count = c.loop-i-test.true in (
      falls_room (lefts_formed c.requires.1) c.requires.0
          c.loop-i.invariant.1.falls,
      subst SmallRule
          (rule_read g c.loop-i.i h)
          (small_at c.requires.1 c.loop-i.i
          (omega (arith, c.requires.1.whole))),
    )

pub loop-i-preserved : goal.loop-i-preserved
loop-i-preserved c =
    let g = c.args.g in
    let i = c.loop-i.i in
    let h : i < g.count = c.loop-i-test.true in
    let x = passed_in {g = rules_of g} _ i (omega (arith, c.requires.1.whole)) (rule_read g i h)
    (Between 0 1 c.args.len) (Between i 1 c.args.len)
    (λ j q d. (d.0, (refl, d.1, d.2)))
    c.lower_split-more.ensures in (
      omega arith,
      inner_more (lefts_formed c.requires.1) c.requires.0 i
          c.loop-i.invariant.1 x
          c.either-fell.ensures,
    )

pub shape_of-hs : goal.shape_of-hs
shape_of-hs c =
    (falls_room (lefts_formed c.requires.1) c.requires.0 c.loop-i.invariant.1.falls).long
    ∙ sym c.requires.0.long

pub returns : goal.returns
returns c = passed_by (lefts_formed c.requires.1) _ _
    (λ j q d. (omega (arith, d.0, c.loop-i.invariant.0, c.loop-i-test.false), d.1, d.2))
    c.loop-i.invariant.1
