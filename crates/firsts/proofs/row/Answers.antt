use mathlib.Core.Path.{◌≡◌}
use native.Mathlib.Omega.{arith}
use Rattle.firsts.proofs.RowLaws.{row_none, row_skip, row_with}
use Rattle.firsts.proofs.row.Goals.{then-has, else-has}
use Rattle.firsts.proofs.row.Goals as goal

pub loop-x-init : goal.loop-x-init
loop-x-init c = (omega arith, row_none)

pub offset_bounds-columns-x : goal.offset_bounds-columns-x
offset_bounds-columns-x c = omega (arith, c.loop-x-test.true)

pub bounds-columns-x : goal.bounds-columns-x
bounds-columns-x c =
    omega (arith, c.loop-x-test.true, c.requires.1)

pub has-requires : goal.has-requires
has-requires c = c.requires.0

pub loop-x-preserved : goal.loop-x-preserved
loop-x-preserved c = (
  omega arith,
  elim c.if-has.branch [
    | then-has w ↦
        rw (w.set-is, w.with-set.ensures)
        (row_with c.loop-x.invariant.1 (c.has.ensures.is w.if-has.true))
    | else-has w ↦
        rw w.set-is (row_skip c.loop-x.invariant.1 (c.has.ensures.isnt w.if-has.false))
  ],
)

pub returns : goal.returns
returns c =
    let e : c.loop-x.x ≡ 64 = omega (arith, c.loop-x.invariant.0) in
    rw e at c.loop-x.invariant.1
