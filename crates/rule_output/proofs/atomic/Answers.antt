-- `atomic` meets its contract.
use Rattle.rule_output.proofs.Adding.{adds_also}
use Rattle.rule_output.proofs.atomic.Goals as goal

pub returns : goal.returns
returns c = adds_also (c.fresh-o.ensures
    c.args.rules.now) c.push.ensures
