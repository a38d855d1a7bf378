-- `sweep` meets its contract: the sweep over what the clause sheet gives.
use Rattle.sheets.proofs.Readings.{rules_told, read_told}
use Rattle.sweep_answers.proofs.Readings.{sweep_by}
use Rattle.call_clauses.proofs.sweep.Goals as goal

pub sweep_read-requires : goal.sweep_read-requires
sweep_read-requires c = read_told _ _ c.read_clauses.ensures

pub returns : goal.returns
returns c = sweep_by (rules_told _ c.read_clauses.ensures) c.sweep_read.ensures
