-- `printing::put_row` meets its contract, part by part.
use native.Mathlib.Omega.{arith}
use Rattle.printing.specs.Printing.{row_text_of}
use Rattle.printing.proofs.Writing.{wrote_then}
use Rattle.printing.proofs.put_row.Goals as goal

pub returns : goal.returns
unfolding row_text_of
returns c =
    let kind = rw c.letter.ensures at
    (wrote_then c.put_byte-c.ensures c.put_byte-d.ensures) in
    let tail =
    wrote_then kind (wrote_then c.put_ended-e.ensures.wrote c.put_ended.ensures.wrote) in
    record {
      wrote = wrote_then c.put_ended-a.ensures.wrote (wrote_then c.put_ended-b.ensures.wrote tail);
      upper_bound = omega (
        arith,
        c.put_ended-a.ensures.upper_bound,
        c.put_ended-b.ensures.upper_bound,
        c.put_byte-c.ensures.next,
        c.put_byte-d.ensures.next,
        c.put_ended-e.ensures.upper_bound,
        c.put_ended.ensures.upper_bound,
      );
    }
