-- `c_words::put_sentence` meets its contract: the length, then the tokens.
use Rattle.printing.proofs.Writing.{wrote_then}
use Rattle.c_words.proofs.put_sentence.Goals as goal

-- src/lib.rt:76:1
pub returns : goal.returns
returns c =
    wrote_then c.put_word-next.ensures c.put_tokens.ensures
