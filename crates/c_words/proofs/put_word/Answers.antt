-- `c_words::put_word` meets its contract, by `wrote_one`.
use borrow.Author.Rules.{rules}
use Rattle.printing.proofs.Writing.{wrote_one}
use Rattle.c_words.proofs.put_word.Goals as goal

-- src/lib.rt:42:1
pub returns : goal.returns
returns c = wrote_one _ _ _ (search rules)
