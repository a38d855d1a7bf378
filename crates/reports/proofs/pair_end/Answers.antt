-- `reports::pair_end` meets its contract: two numbers, one after the other.
use Rattle.reports.proofs.Fields.{pair_second}
use Rattle.reports.proofs.pair_end.Goals as goal

pub returns-in_err-b : goal.returns-in_err-b
returns-in_err-b c =
    rw c.from_residual-in_err-b.ensures (pair_second _ _ c.in_ok-a.ensures c.in_err-b.ensures)
