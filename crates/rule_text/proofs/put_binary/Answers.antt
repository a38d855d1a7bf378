-- `put_binary` meets its contract.
use native.Mathlib.Omega.{arith}
use Rattle.rule_text.specs.RuleText.{binary_lay_of}
use Rattle.rule_text.proofs.put_binary.Goals as goal

pub returns-in-None : goal.returns-in-None
unfolding binary_lay_of
returns-in-None c = record {
  wrote = rw c.in-None.is c.put_bytes.ensures;
  upper_bound = omega
      (arith, c.put_bytes.ensures.next);
}

pub returns-in-Align : goal.returns-in-Align
unfolding binary_lay_of
returns-in-Align c = record {
  wrote = rw c.in-Align.is c.put_bytes-in-Align.ensures;
  upper_bound = omega
      (arith, c.put_bytes-in-Align.ensures.next);
}

pub returns-in-Indent : goal.returns-in-Indent
unfolding binary_lay_of
returns-in-Indent c = record {
  wrote = rw c.in-Indent.is c.put_bytes-in-Indent.ensures;
  upper_bound = omega
      (arith, c.put_bytes-in-Indent.ensures.next);
}
