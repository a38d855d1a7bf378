-- The empty word has one place beside the empty word, and two beside any other.
use native.Mathlib.Omega.{arith}
use Rattle.joins.specs.Passes.Beside.{alone, both}
use Rattle.joins.proofs.try_beside.Goals as goal

pub returns-then-len-eq0 : goal.returns-then-len-eq0
returns-then-len-eq0 c = alone c.if-len-eq0.true c.try_join.ensures

pub returns : goal.returns
returns c = let z = c.if-len-eq0.false in
    both (omega arith) c.try_join-u.result c.try_join-u.ensures
    c.try_join-2.ensures
