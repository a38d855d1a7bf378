-- The pairs of the terminals, then the last two.
use Rattle.pruning.proofs.TableLaws.{tabled_of}
use Rattle.pruning.proofs.fill_table.Goals as goal

pub returns : goal.returns
returns c = tabled_of c.requires.table_len
    c.leaves-w.ensures c.empty_pair-e.ensures
    c.write.ensures
    c.write-2.ensures
