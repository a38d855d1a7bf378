-- `with_change` meets its contract: by what the line says.
use Rattle.rights.specs.RightSheets.{covers}
use Rattle.rights.proofs.Ranges.{told, untold}
use Rattle.rights.proofs.with_change.Goals as goal

pub returns-then-r : goal.returns-then-r
returns-then-r c = let a = c.args in
    told _ _ _ (covers a.r a.user) c.if-r.true c.with_right.ensures

pub returns : goal.returns
returns c = let a = c.args in untold _ _ (covers a.r a.user) c.if-r.false
