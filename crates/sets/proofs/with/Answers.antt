use Rattle.sets.proofs.Sets.{insert_shl}
use Rattle.sets.proofs.with.Goals as goal

pub returns : goal.returns
returns c = insert_shl _ _ c.requires
