-- `sweep_text::put_swept` meets its contract: the found sentence, or the answer alone.
use native.Mathlib.Omega.{arith}
use Rattle.printing.proofs.Writing.{wrote_none, wrote_then}
use Rattle.sweep_text.proofs.put_swept.Goals as goal

pub put_sentence-requires : goal.put_sentence-requires
put_sentence-requires c =
    record {
      count_bound = rw (c.in-Ok.is, c.in-Some.is) at c.requires.few;
      count_in_bounds = omega (
        arith,
        rw (c.in-Ok.is, c.in-Some.is) at c.requires.in_bounds,
        c.put_head-n.ensures.upper_bound,
        c.put_head-n.ensures.wrote.long,
      );
    }

pub returns-in-None : goal.returns-in-None
returns-in-None c =
    rw (c.in-Ok.is, c.in-None.is) (wrote_then c.put_head.ensures.wrote (wrote_none _ _))

pub returns-in-Some : goal.returns-in-Some
returns-in-Some c =
    rw (c.in-Ok.is, c.in-Some.is)
    (wrote_then c.put_head-n.ensures.wrote c.put_sentence.ensures)

pub returns-in-Err : goal.returns-in-Err
returns-in-Err c =
    rw c.in-Err.is (wrote_then c.put_head-in-Err.ensures.wrote (wrote_none _ _))
