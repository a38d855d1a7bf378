-- `doubt_marks::over_frame` meets its contract.
use mathlib.Core.Path.{◌≡◌}
use native.Mathlib.Omega.{arith}
use Rattle.doubt_marks.proofs.GrowLaws.{grows_none, grows_more}
use Rattle.doubt_marks.proofs.over_frame.Goals as goal

pub loop-i-init : goal.loop-i-init
loop-i-init g c = grows_none

pub shape-requires : goal.shape-requires
shape-requires g c = record {
  evens = c.requires.evens;
  in_bounds = (
    c.loop-i-test.true,
    omega (arith, c.loop-i.invariant.size, c.requires.in_bounds),
  );
}

pub loop-i-preserved : goal.loop-i-preserved
loop-i-preserved g c = grows_more c.loop-i.invariant c.shape.ensures

pub shape_of-out : goal.shape_of-out
shape_of-out g c = c.loop-i.invariant.size

pub returns : goal.returns
returns g c =
    let e : c.loop-i.i ≡ 384 = omega arith in
    rw e at c.loop-i.invariant
