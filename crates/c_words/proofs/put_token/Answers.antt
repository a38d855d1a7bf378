-- `c_words::put_token` meets its contract, word by word.
use Rattle.printing.proofs.Writing.{wrote_then}
use Rattle.c_words.proofs.put_token.Goals as goal

-- src/lib.rt:51:1
pub returns : goal.returns
returns c =
    wrote_then c.put_word-a.ensures
    (wrote_then c.put_word-b.ensures c.put_word.ensures)
