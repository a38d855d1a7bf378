-- `put_over` meets its contract.
use native.Mathlib.Omega.{arith}
use Rattle.printing.proofs.Writing.{wrote_then}
use Rattle.rule_text.proofs.put_over.Goals as goal

pub returns : goal.returns
returns c = record {
  wrote = wrote_then c.put_bytes-p.ensures
      (wrote_then c.put_ended-q.ensures.wrote
      (wrote_then c.put_bytes-s.ensures c.put_unary.ensures.wrote));
  upper_bound = omega (
    arith,
    c.put_bytes-p.ensures.next,
    c.put_ended-q.ensures.upper_bound,
    c.put_bytes-s.ensures.next,
    c.put_unary.ensures.upper_bound,
  );
}
