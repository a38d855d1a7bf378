-- `text::put_answer` meets its contract: in each arm the answer is known.
use native.Mathlib.Omega.{arith}
use Rattle.sheets.proofs.Numbers.{number_small}
use borrow.Author.Rules.{rules}
use Rattle.text.proofs.put_answer.Goals as goal

pub put_refused-requires : goal.put_refused-requires
put_refused-requires c =
    let e = c.into.ensures in
    record { n_bound = rw e (number_small c.in-Refused.f); at_in_bounds = search rules }

pub returns-in-None : goal.returns-in-None
returns-in-None c = record {
  wrote = rw c.in-None.is c.put_bytes.ensures;
  upper_bound = omega
      (arith, c.put_bytes.ensures.next);
}

pub returns-in-One : goal.returns-in-One
returns-in-One c = record {
  wrote = rw c.in-One.is c.put_bytes-in-One.ensures;
  upper_bound = omega
      (arith, c.put_bytes-in-One.ensures.next);
}

pub returns-in-Two : goal.returns-in-Two
returns-in-Two c = record {
  wrote = rw c.in-Two.is c.put_bytes-in-Two.ensures;
  upper_bound = omega
      (arith, c.put_bytes-in-Two.ensures.next);
}

pub returns-in-Clear : goal.returns-in-Clear
returns-in-Clear c = record {
  wrote = rw c.in-Clear.is c.put_bytes-in-Clear.ensures;
  upper_bound = omega
      (arith, c.put_bytes-in-Clear.ensures.next);
}

pub returns-in-Given : goal.returns-in-Given
returns-in-Given c = record {
  wrote = rw c.in-Given.is c.put_bytes-in-Given.ensures;
  upper_bound = omega
      (arith, c.put_bytes-in-Given.ensures.next);
}

pub returns-in-Refused : goal.returns-in-Refused
returns-in-Refused c =
    let w = rw c.into.ensures at c.put_refused.ensures.wrote in
    record { wrote = rw c.in-Refused.is w; upper_bound = c.put_refused.ensures.upper_bound }
