-- `teplonga_places` meets its contract: the number of places, and the answer with its line.
use Rattle.std.specs.Prelude.{Ok, Err}
use Rattle.c_interface.proofs.teplonga_places.Goals as goal

pub returns-in-Ok : goal.returns-in-Ok
returns-in-Ok c =
    record {
      reply = Ok c.in-Ok.r;
      promise = rw c.in-Ok.is at c.places.ensures;
      entries = c.put_one.ensures;
      word = rw c.into.ensures at c.pack.ensures;
    }

pub returns-in-Err : goal.returns-in-Err
returns-in-Err c =
    record {
      reply = Err c.in-Err.e;
      promise = rw c.in-Err.is at c.places.ensures;
      entries = c.refused_word.ensures.entries;
      word = c.refused_word.ensures.word;
    }
