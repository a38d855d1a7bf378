-- `always` meets its contract: the answer by what the rule sheet gives.
use Rattle.sheets.proofs.Readings.{rules_told, read_told}
use Rattle.call_always.proofs.Replies.{always_by}
use Rattle.call_always.proofs.always.Goals as goal

pub always_read-requires : goal.always_read-requires
always_read-requires c = read_told _ _ c.read_rules.ensures

pub returns : goal.returns
returns c = always_by (rules_told _ c.read_rules.ensures) c.always_read.ensures
