-- `teplonga_columns` meets its contract: the flags, and the answer with its line.
use Rattle.std.specs.Prelude.{Ok, Err}
use Rattle.c_interface.proofs.teplonga_columns.Goals as goal

pub returns-in-Ok : goal.returns-in-Ok
returns-in-Ok c =
    record {
      reply = Ok c.in-Ok.f;
      promise = rw c.in-Ok.is at c.columns.ensures;
      flags = c.put_flags.ensures;
      word = c.pack.ensures;
    }

pub returns-in-Err : goal.returns-in-Err
returns-in-Err c =
    record {
      reply = Err c.in-Err.e;
      promise = rw c.in-Err.is at c.columns.ensures;
      flags = c.put_flags-in-Err.ensures;
      word = c.pack_refusal.ensures;
    }
