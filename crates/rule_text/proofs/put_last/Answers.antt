-- `put_last` meets its contract.
use native.Mathlib.Omega.{arith}
use borrow.Author.Tests.{eq-eqb, ne_eqb}
use Rattle.rule_text.proofs.put_last.Goals as goal

pub returns-then-a-b : goal.returns-then-a-b
returns-then-a-b c =
    let a = c.args in record {
      wrote = rw (eq-eqb a.a a.b c.if-a-b.true) c.put_bytes.ensures;
      upper_bound = omega
          (arith, c.put_bytes.ensures.next);
    }

pub returns : goal.returns
returns c =
    let a = c.args in
    record {
      wrote = rw (ne_eqb a.a a.b c.if-a-b.false) c.put_ended.ensures.wrote;
      upper_bound = c.put_ended.ensures.upper_bound;
    }
