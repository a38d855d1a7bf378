-- `put_unary` meets its contract.
use native.Mathlib.Omega.{arith}
use Rattle.rule_text.specs.RuleText.{unary_lay_of}
use Rattle.rule_text.proofs.put_unary.Goals as goal

pub returns-in-None : goal.returns-in-None
unfolding unary_lay_of
returns-in-None c = record {
  wrote = rw c.in-None.is c.put_bytes.ensures;
  upper_bound = omega
      (arith, c.put_bytes.ensures.next);
}

pub returns-in-Offside : goal.returns-in-Offside
unfolding unary_lay_of
returns-in-Offside c = record {
  wrote = rw c.in-Offside.is c.put_bytes-in-Offside.ensures;
  upper_bound = omega
      (arith, c.put_bytes-in-Offside.ensures.next);
}

pub returns-in-Offalign : goal.returns-in-Offalign
unfolding unary_lay_of
returns-in-Offalign c = record {
  wrote = rw c.in-Offalign.is c.put_bytes-in-Offalign.ensures;
  upper_bound = omega
      (arith, c.put_bytes-in-Offalign.ensures.next);
}

pub returns-in-Single : goal.returns-in-Single
unfolding unary_lay_of
returns-in-Single c = record {
  wrote = rw c.in-Single.is c.put_bytes-in-Single.ensures;
  upper_bound = omega
      (arith, c.put_bytes-in-Single.ensures.next);
}
