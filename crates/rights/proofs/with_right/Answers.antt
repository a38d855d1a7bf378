-- `with_right` meets its contract: by whose line it is.
use Rattle.rights.proofs.Ranges.{mine, theirs}
use Rattle.rights.proofs.with_right.Goals as goal

pub returns-then-r-user : goal.returns-then-r-user
returns-then-r-user c = let a = c.args in
    mine _ _ _ a.r.low a.r.high _ c.if-r-user.true c.with_range.ensures

pub returns : goal.returns
returns c = let a = c.args in
    theirs _ _ a.r.low a.r.high _ c.if-r-user.false
