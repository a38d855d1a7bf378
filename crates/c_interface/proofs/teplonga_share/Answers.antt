-- `teplonga_share` meets its contract: the numbers, the sentence, and the answer with its line.
use Rattle.c_interface.proofs.teplonga_share.Goals as goal

pub returns-in-Some : goal.returns-in-Some
returns-in-Some c =
    record {
      reply = c.share.result;
      promise = c.share.ensures;
      values = rw c.in-Ok.is c.put_numbers.ensures;
      sentence = rw (c.in-Ok.is, c.in-Some.is) c.put_found_sentence.ensures;
      word = rw (c.in-Ok.is, c.in-Some.is) c.pack.ensures;
    }

pub returns-in-None : goal.returns-in-None
returns-in-None c =
    record {
      reply = c.share.result;
      promise = c.share.ensures;
      values = rw c.in-Ok.is c.put_numbers.ensures;
      sentence =
          rw (c.in-Ok.is, c.in-None.is)
          (rw c.nothing.ensures at c.put_found_sentence-in-None.ensures);
      word = rw (c.in-Ok.is, c.in-None.is) c.pack-in-None.ensures;
    }

pub returns-in-Err : goal.returns-in-Err
returns-in-Err c =
    record {
      reply = c.share.result;
      promise = c.share.ensures;
      values = rw c.in-Err.is c.put_numbers-in-Err.ensures;
      sentence =
          rw c.in-Err.is
          (rw c.nothing-in-Err.ensures at c.put_found_sentence-in-Err.ensures);
      word = rw c.in-Err.is c.pack_refusal.ensures;
    }
