-- `doubt_marks::over_span` meets its contract.
use mathlib.Core.Path.{◌≡◌}
use native.Mathlib.Omega.{arith}
use Rattle.doubt_marks.proofs.GrowLaws.{grows_none, grows_more}
use Rattle.doubt_marks.proofs.over_span.Goals as goal

pub loop-k-init : goal.loop-k-init
loop-k-init g c = grows_none

pub by_number-requires : goal.by_number-requires
by_number-requires g c =
    (c.loop-k-test.true, omega (arith, c.loop-k.invariant.size, c.requires))

pub loop-k-preserved : goal.loop-k-preserved
loop-k-preserved g c = grows_more c.loop-k.invariant c.by_number.ensures

pub shape_of-out : goal.shape_of-out
shape_of-out g c = c.loop-k.invariant.size

pub returns : goal.returns
returns g c =
    let e : c.loop-k.k ≡ 16 = omega arith in
    rw e at c.loop-k.invariant
