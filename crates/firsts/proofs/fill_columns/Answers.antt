use mathlib.Core.Path.{◌≡◌, refl, ◌∙◌}
use native.Mathlib.Omega.{arith}
use lib.ListN.{length-set}
use Rattle.firsts.proofs.RowLaws.{columns_more}
use Rattle.firsts.proofs.fill_columns.Goals as goal

pub loop-x-init : goal.loop-x-init
loop-x-init c = (omega arith, refl, record { each = λ y l. absurd (omega (arith, l)) })

pub beginning-requires : goal.beginning-requires
beginning-requires c = c.requires.formed

pub offset_bounds-out-x : goal.offset_bounds-out-x
offset_bounds-out-x c = omega (arith, c.loop-x-test.true)

pub bounds-out-x : goal.bounds-out-x
bounds-out-x c =
    omega (
      arith,
      c.loop-x-test.true,
      c.loop-x.invariant.1,
      c.requires.in_bounds,
    )

pub loop-x-preserved : goal.loop-x-preserved
loop-x-preserved c =
    let i = c.loop-x.invariant in (
      omega arith,
      length-set c.loop-x.out _ _
          ∙ i.1,
      columns_more (omega (
        arith,
        i.1,
        c.loop-x-test.true,
        c.requires.in_bounds,
      )) i.2 c.beginning.ensures,
    )

pub shape_of-out : goal.shape_of-out
shape_of-out c = c.loop-x.invariant.1

pub returns : goal.returns
returns c =
    let e : c.loop-x.x ≡ 64 = omega (arith, c.loop-x.invariant.0) in
    rw e at c.loop-x.invariant.2
