-- `lengths::no_lengths` meets its contract.
use Rattle.lengths.proofs.Growing.{exact_none}
use Rattle.lengths.proofs.no_lengths.Goals as goal

pub returns : goal.returns
returns c = exact_none
