use Rattle.cuts.proofs.ClosureLaws.{adding_plain, adding_again}
use Rattle.cuts.proofs.joined.Goals as goal

-- src/lib.rt:235:9
pub returns-then-again : goal.returns-then-again
returns-then-again c = let a = c.args in
    adding_again a.t a.u a.again c.if-again.true

-- src/lib.rt:229:1
pub returns : goal.returns
returns c = let a = c.args in
    adding_plain a.t a.u a.again c.if-again.false
