-- `trees` meets its contract: the trees of what the clause sheet gives.
use Rattle.sheets.proofs.Readings.{rules_told, read_told}
use Rattle.answering.proofs.Readings.{trees_by}
use Rattle.call_clauses.proofs.trees.Goals as goal

pub trees_read-requires : goal.trees_read-requires
trees_read-requires c = read_told _ _ c.read_clauses.ensures

pub returns : goal.returns
returns c = trees_by (rules_told _ c.read_clauses.ensures) c.args.tokens.now c.trees_read.ensures
