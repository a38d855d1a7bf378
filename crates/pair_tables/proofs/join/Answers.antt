use Rattle.pair_tables.proofs.TableLaws.{joined}
use Rattle.pair_tables.proofs.join.Goals as goal

pub returns : goal.returns
returns c = joined _ _ _ c.requires
