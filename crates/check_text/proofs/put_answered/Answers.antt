-- `check_text::put_answered` meets its contract: the verdict and its trees, or the refusal alone.
use native.Mathlib.Omega.{arith}
use Rattle.printing.proofs.Writing.{wrote_none, wrote_then}
use Rattle.check_text.proofs.put_answered.Goals as goal

pub put_trees-requires : goal.put_trees-requires
put_trees-requires c =
    let p = c.requires in
    record {
      m_in_bounds = (rw c.in-Ok.is at p.first, rw c.in-Ok.is at p.second);
      n_in_bounds = omega (
        arith,
        rw c.in-Ok.is at p.in_bounds,
        c.put_head-n.ensures.upper_bound,
        c.put_head-n.ensures.wrote.long,
      );
    }

pub returns-in-Ok : goal.returns-in-Ok
returns-in-Ok c =
    rw c.in-Ok.is
    (wrote_then (rw c.into-a.ensures at c.put_head-n.ensures.wrote)
    (rw c.into-a.ensures at c.put_trees.ensures))

pub returns-in-Err : goal.returns-in-Err
returns-in-Err c =
    rw c.in-Err.is (wrote_then c.put_head.ensures.wrote (wrote_none _ _))
