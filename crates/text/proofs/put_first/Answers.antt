-- `text::put_first` meets its contract, part by part.
use native.Mathlib.Omega.{arith}
use Rattle.printing.proofs.Writing.{wrote_then}
use Rattle.text.proofs.put_first.Goals as goal

pub returns : goal.returns
returns c = record {
  wrote = wrote_then c.put_bytes-next.ensures c.put_rows.ensures.wrote;
  upper_bound = omega
      (arith, c.put_bytes-next.ensures.next, c.put_rows.ensures.upper_bound);
}
