-- `clauses_always_text` meets its contract: the output by what the clause sheet gives.
use Rattle.sheets.proofs.Readings.{rules_told, read_told}
use Rattle.always_text.proofs.clauses_always_text.Goals as goal

pub read_text-requires : goal.read_text-requires
read_text-requires c =
    record { rules_read = read_told _ _ c.read_clauses.ensures; in_bounds = c.requires }

pub returns : goal.returns
returns c = rw (rules_told _ c.read_clauses.ensures) at c.read_text.ensures
