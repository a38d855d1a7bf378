-- `printing::put_byte` meets its contract, by `wrote_one`.
use borrow.Author.Rules.{rules}
use Rattle.printing.proofs.Writing.{wrote_one}
use Rattle.printing.proofs.put_byte.Goals as goal

pub returns : goal.returns
returns c = wrote_one _ _ _ (search rules)
