-- `put_rule` meets its contract.
use native.Mathlib.Omega.{arith}
use Rattle.printing.proofs.Writing.{wrote_then}
use Rattle.rule_text.proofs.put_rule.Goals as goal

pub returns : goal.returns
returns c = record {
  wrote = wrote_then c.put_ended-next.ensures.wrote c.put_clause.ensures.wrote;
  upper_bound = omega
      (arith, c.put_ended-next.ensures.upper_bound, c.put_clause.ensures.upper_bound);
}
