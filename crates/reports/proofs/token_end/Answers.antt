-- `reports::token_end` meets its contract: three numbers, one after the other.
use Rattle.reports.proofs.Fields.{token_there, token_first, token_second, token_third}
use Rattle.reports.proofs.token_end.Goals as goal

pub returns-in_err-a : goal.returns-in_err-a
returns-in_err-a c = rw c.from_residual.ensures (token_first _ _ c.in_err-a.ensures)

pub returns-in_err-b : goal.returns-in_err-b
returns-in_err-b c =
    rw c.from_residual-in_err-b.ensures (token_second _ _ c.in_ok-a.ensures c.in_err-b.ensures)

pub returns-in_err-c : goal.returns-in_err-c
returns-in_err-c c =
    rw c.from_residual-in_err-c.ensures
    (token_third _ _ c.in_ok-a.ensures c.in_ok-b.ensures c.in_err-c.ensures)

pub returns : goal.returns
returns c = token_there _ _ c.in_ok-a.ensures c.in_ok-b.ensures c.in_ok-c.ensures
