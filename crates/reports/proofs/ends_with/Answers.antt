-- `reports::ends_with` meets its contract: the bytes are compared.
use Rattle.reports.proofs.Whole.{same_whole}
use Rattle.reports.proofs.ends_with.Goals as goal

pub returns : goal.returns
returns c =
    let a = c.args in
    same_whole a.s.now a.at a.bytes.now c.eq.result c.eq.ensures
