-- `pack` meets its contract, by the code of the answer.
use Rattle.c_words.proofs.pack.Goals as goal

pub returns : goal.returns
returns c = rw c.code.ensures.value at c.with_line.ensures
