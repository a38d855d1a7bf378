-- `fields::numeral` meets its contract: the tests on the length are the definition's.
use lib.ListN.{length}
use borrow.Author.Tests.{le-leb, lt-leb}
use native.Mathlib.Omega.{arith}
use Rattle.fields.proofs.numeral.Goals as goal

pub returns-then-n-eq0 : goal.returns-then-n-eq0
returns-then-n-eq0 c = rw c.if-n-eq0.true

pub returns-then-n-gt5 : goal.returns-then-n-gt5
returns-then-n-gt5 c = simp (
  lt-leb _ _ c.if-n-gt5.true,
  le-leb 1
      (length c.args.f.now) (omega arith),
)

pub returns : goal.returns
returns c = let n = length c.args.f.now in
    simp (le-leb 1 n (omega arith), le-leb n 5 (omega arith)) c.digits.ensures
