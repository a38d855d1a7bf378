-- `teplonga_rows` meets its contract: the counts as numbers, and the answer with its line.
use Rattle.std.specs.Prelude.{Ok, Err}
use Rattle.c_interface.proofs.teplonga_rows.Goals as goal

pub returns-in-Ok : goal.returns-in-Ok
returns-in-Ok c =
    record {
      reply = Ok c.in-Ok.r;
      promise = rw c.in-Ok.is at c.rows.ensures;
      rows = rw (c.count.ensures, c.count-in-Ok.ensures) at c.put_counts.ensures;
      word = rw c.into.ensures at c.pack.ensures;
    }

pub returns-in-Err : goal.returns-in-Err
returns-in-Err c =
    record {
      reply = Err c.in-Err.e;
      promise = rw c.in-Err.is at c.rows.ensures;
      rows = c.put_counts-in-Err.ensures;
      word = c.pack_refusal.ensures;
    }
