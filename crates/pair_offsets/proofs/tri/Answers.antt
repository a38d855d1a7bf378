use Rattle.pair_offsets.proofs.SayLaws.{tri_says}
use Rattle.pair_offsets.proofs.tri.Goals as goal

pub returns : goal.returns
returns c = tri_says _ _ _
