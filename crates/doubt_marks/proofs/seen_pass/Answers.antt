-- `doubt_marks::seen_pass` meets its contract.
use mathlib.Core.Path.{◌≡◌}
use native.Mathlib.Omega.{arith}
use Rattle.doubt_marks.proofs.SeenLaws.{pass_none, pass_more}
use Rattle.doubt_marks.proofs.seen_pass.Goals as goal

pub loop-i-init : goal.loop-i-init
loop-i-init c = (omega arith, pass_none _ _ _)

pub with_children-next-requires : goal.with_children-next-requires
with_children-next-requires c =
    let l = c.loop-i-test.true in (c.requires.0, c.requires.1, omega (arith, l))

pub loop-i-smaller : goal.loop-i-smaller
loop-i-smaller c = omega (arith, c.loop-i-test.true)

pub loop-i-preserved : goal.loop-i-preserved
loop-i-preserved c = (
  omega (arith, c.loop-i-test.true),
  pass_more _ _ c.loop-i-test.true c.loop-i.invariant.1
      c.with_children-next.ensures,
)

pub returns : goal.returns
returns c =
    let e : c.loop-i.i ≡ 384 = omega (arith, c.loop-i.invariant.0, c.loop-i-test.false) in
    rw e at c.loop-i.invariant.1
