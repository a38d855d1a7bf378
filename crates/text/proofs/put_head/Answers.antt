-- `text::put_head` meets its contract, part by part.
use native.Mathlib.Omega.{arith}
use Rattle.printing.proofs.Writing.{wrote_then}
use Rattle.text.proofs.put_head.Goals as goal

pub returns : goal.returns
returns c = record {
  wrote = wrote_then c.put_bytes-n.ensures
      (wrote_then c.put_answer-m.ensures.wrote c.put_line.ensures.wrote);
  upper_bound = omega (
    arith,
    c.put_bytes-n.ensures.next,
    c.put_answer-m.ensures.upper_bound,
    c.put_line.ensures.upper_bound,
  );
}
