-- `firsts::fill_firsts` meets its contract.
use Rattle.firsts.proofs.RowLaws.{rows_exact}
use Rattle.firsts.proofs.fill_firsts.Goals as goal

pub returns : goal.returns
returns c =
    rows_exact
    c.requires.formed.0
    c.fill_columns.ensures
    c.fill_rows.ensures
