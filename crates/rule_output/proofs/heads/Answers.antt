-- `heads` meets its contract, lexeme by lexeme.
use Rattle.rule_output.proofs.Leaves.{bare_none}
use Rattle.rule_output.proofs.heads.Goals as goal

pub returns-in_default : goal.returns-in_default
returns-in_default c =
    let d = c.in_default in
    (bare_none c.args.l (record {
      maybe = d.not-Maybe;
      plus = d.not-Plus;
      star = d.not-Star;
      marked = d.not-Marked;
    })).0
