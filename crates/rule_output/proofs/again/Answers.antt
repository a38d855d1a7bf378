-- `again` meets its contract.
use Rattle.rule_output.proofs.Adding.{adds_also}
use Rattle.rule_output.proofs.again.Goals as goal

pub returns : goal.returns
returns c = adds_also c.push-p.ensures c.push.ensures
