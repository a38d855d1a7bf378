-- `verdict` meets its contract: the verdict on what the rule sheet gives.
use Rattle.sheets.proofs.Readings.{rules_told, read_told}
use Rattle.answering.proofs.Readings.{verdict_by}
use Rattle.teplonga.proofs.verdict.Goals as goal

pub verdict_read-requires : goal.verdict_read-requires
verdict_read-requires c = read_told _ _ c.read_rules.ensures

pub returns : goal.returns
returns c = verdict_by (rules_told _ c.read_rules.ensures) c.args.tokens.now c.verdict_read.ensures
