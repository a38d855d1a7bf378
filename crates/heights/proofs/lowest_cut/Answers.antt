use mathlib.Core.Path.{refl, sym, subst}
use native.Mathlib.Omega.{arith}
use mathlib.Core.Logic.{inl, inr}
use Rattle.heights.specs.Tall.{Lowest}
use Rattle.heights.proofs.FallLaws.{lowest_none, lowest_more, lowest_end}
use Rattle.heights.proofs.lowest_cut.Goals as goal

pub loop-left-init : goal.loop-left-init
loop-left-init c = (omega arith, inr refl, lowest_none _ 1)

pub binary_tall-h-requires : goal.binary_tall-h-requires
binary_tall-h-requires c = c.requires

pub loop-left-preserved : goal.loop-left-preserved
loop-left-preserved c =
    let i = c.loop-left.invariant in (
      omega arith,
      inl (omega (arith, c.loop-left-test.true)),
      subst
          (Lowest _ _ _ _ _ 1 _) (sym c.min-best.ensures)
          (lowest_more _ 1 _ i.0 i.2 c.binary_tall-h.ensures),
    )

pub returns : goal.returns
returns c = let i = c.loop-left.invariant in
    lowest_end _ _ _ i.1 (omega (arith, c.loop-left-test.false)) i.2
