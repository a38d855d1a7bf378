-- `write_none` meets its contract: both memories are cleared.
use Rattle.tree_writer.proofs.WrittenLaws.{none_written}
use Rattle.tree_writer.proofs.write_none.Goals as goal

pub returns : goal.returns
returns c = λ dis. none_written dis
    c.clear.ensures
    c.clear-2.ensures
