use mathlib.Core.Path.{◌≡◌, refl, ◌∙◌}
use native.Mathlib.Omega.{arith}
use lib.ListN.{length-set}
use Rattle.firsts.proofs.RowLaws.{rows_more}
use Rattle.firsts.proofs.fill_rows.Goals as goal

pub loop-a-init : goal.loop-a-init
loop-a-init c = (omega arith, refl, record { each = λ y l. absurd (omega (arith, l)) })

pub row-requires : goal.row-requires
row-requires c = (c.loop-a-test.true, c.requires.0)

pub offset_bounds-out-a : goal.offset_bounds-out-a
offset_bounds-out-a c = omega (arith, c.loop-a-test.true)

pub bounds-out-a : goal.bounds-out-a
bounds-out-a c =
    omega (
      arith,
      c.loop-a-test.true,
      c.loop-a.invariant.1,
      c.requires.1,
    )

pub loop-a-preserved : goal.loop-a-preserved
loop-a-preserved c =
    let i = c.loop-a.invariant in (
      omega arith,
      length-set c.loop-a.out _ _
          ∙ i.1,
      rows_more (omega (
        arith,
        i.1,
        c.loop-a-test.true,
        c.requires.1,
      )) i.2 c.row.ensures,
    )

pub shape_of-out : goal.shape_of-out
shape_of-out c = c.loop-a.invariant.1

pub returns : goal.returns
returns c =
    let e : c.loop-a.a ≡ 64 = omega (arith, c.loop-a.invariant.0) in
    rw e at c.loop-a.invariant.2
