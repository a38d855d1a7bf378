-- `reports::two_rest` meets its contract: a pair, a number, the names of a token sheet, and token
-- lines to the end.
use Rattle.reports.proofs.RestLaws.{two_number, two_names, two_lines, two_there, rest_inside}
use Rattle.reports.proofs.two_rest.Goals as goal

pub returns-in_err-number : goal.returns-in_err-number
returns-in_err-number c =
    rw c.from_residual-in_err-number.ensures
    (two_number _ _ c.in_ok-a.ensures c.in_err-number.ensures)

pub returns-then-not-starts_at : goal.returns-then-not-starts_at
returns-then-not-starts_at c =
    two_names _ _ c.in_ok-a.ensures c.in_ok-number.ensures
    (c.starts_at.ensures.isnt c.if-not-starts_at.true)

pub token_count-requires : goal.token_count-requires
token_count-requires c =
    rest_inside _ _ c.in_ok-a.ensures c.in_ok-number.ensures
    (c.starts_at.ensures.is c.if-not-starts_at.false)

pub returns-in_err-n : goal.returns-in_err-n
returns-in_err-n c =
    rw c.from_residual-in_err-n.ensures
    (two_lines _ _ c.in_ok-a.ensures c.in_ok-number.ensures
    (c.starts_at.ensures.is c.if-not-starts_at.false) c.in_err-n.ensures)

pub returns : goal.returns
returns c =
    two_there _ _ c.in_ok-a.ensures c.in_ok-number.ensures
    (c.starts_at.ensures.is c.if-not-starts_at.false) c.in_ok-n.ensures
