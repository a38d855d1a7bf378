-- `put_told` meets its contract: for unknown the names and the lines of the entries.
use Rattle.printing.proofs.Writing.{wrote_none, wrote_then}
use Rattle.always_text.proofs.put_told.Goals as goal

pub returns-in-Clear : goal.returns-in-Clear
returns-in-Clear c =
    rw (c.in-Ok.is, c.in-Clear.is) (wrote_then c.put_head.ensures.wrote (wrote_none _ _))

pub returns-in-Unknown : goal.returns-in-Unknown
returns-in-Unknown c =
    rw (c.in-Ok.is, c.in-Unknown.is)
    (wrote_then c.put_unknown-a.ensures.wrote
    (wrote_then c.put_bytes-b.ensures c.put_doubts.ensures))

pub returns-in-Err : goal.returns-in-Err
returns-in-Err c =
    rw c.in-Err.is (wrote_then c.put_head-in-Err.ensures.wrote (wrote_none _ _))
