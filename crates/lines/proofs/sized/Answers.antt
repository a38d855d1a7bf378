-- `lines::sized` meets its contract: the tests are the definition's, in its order.
use Prim.Native.Nat.{◌+◌}
use borrow.Author.Tests.{le-leb, lt-leb}
use native.Mathlib.Omega.{arith}
use Rattle.lines.proofs.sized.Goals as goal

pub returns-then-w-eq0 : goal.returns-then-w-eq0
returns-then-w-eq0 c = simp c.if-w-eq0.true

pub returns-then-w-gt255 : goal.returns-then-w-gt255
returns-then-w-gt255 c = let a = c.args in
    simp (lt-leb _ _ c.if-w-gt255.true, le-leb 1 a.w (omega arith))

pub returns : goal.returns
returns c = let a = c.args in
    let e = c.past.ensures in
    simp (
      le-leb (a.k + a.w) 65536 (omega (arith, e)),
      le-leb a.w 255
          (omega arith),
      le-leb 1 a.w (omega arith),
    )
