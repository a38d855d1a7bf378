-- `put_values` meets its contract, part by part.
use native.Mathlib.Omega.{arith}
use Rattle.printing.proofs.Writing.{wrote_then}
use Rattle.share_text.specs.Shares.{share_lines}
use Rattle.share_text.proofs.put_values.Goals as goal

pub returns : goal.returns
unfolding share_lines
returns c =
    let tail = wrote_then c.put_value-d.ensures.wrote
    (wrote_then c.put_found-e.ensures.wrote
    c.put_byte.ensures) in record {
      wrote = wrote_then c.put_bytes-b.ensures (wrote_then
          c.put_value-c.ensures.wrote tail);
      upper_bound = omega (
        arith,
        c.put_bytes-b.ensures.next,
        c.put_value-c.ensures.upper_bound,
        c.put_value-d.ensures.upper_bound,
        c.put_found-e.ensures.upper_bound,
        c.put_byte.ensures.next,
      );
    }
