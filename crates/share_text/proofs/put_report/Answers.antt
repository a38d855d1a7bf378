-- `put_report` meets its contract: it is known whether a sentence was found.
use native.Mathlib.Omega.{arith}
use Rattle.printing.proofs.Writing.{wrote_none, wrote_then}
use Rattle.share_text.proofs.put_report.Goals as goal

pub put_sentence-requires : goal.put_sentence-requires
put_sentence-requires c =
    let f = rw c.in-Some.is at c.requires.few in
    record {
      count_bound = omega (arith, f);
      count_in_bounds = omega (
        arith,
        f,
        c.put_head-n-in-Some.ensures.upper_bound,
        c.put_head-n-in-Some.ensures.wrote.long,
        c.put_values-m.ensures.upper_bound,
        c.put_values-m.ensures.wrote.long,
        c.requires.in_bounds,
      );
    }

pub returns-in-None : goal.returns-in-None
returns-in-None c =
    rw c.in-None.is
    (wrote_then (wrote_then c.put_head-n.ensures.wrote c.put_values.ensures.wrote)
    (wrote_none _ _))

pub returns-in-Some : goal.returns-in-Some
returns-in-Some c =
    rw c.in-Some.is
    (wrote_then (wrote_then c.put_head-n-in-Some.ensures.wrote c.put_values-m.ensures.wrote)
    c.put_sentence.ensures)
