use Rattle.pair_steps.proofs.NarrowLaws.{all_mask, keep_none, keep_offside, keep_offalign}
use Rattle.pair_steps.proofs.NarrowLaws.{keep_single}
use Rattle.pair_steps.proofs.keep_mask.Goals as goal

pub returns-in-None : goal.returns-in-None
returns-in-None c = rw c.in-None.is (all_mask keep_none)

pub returns-in-Offside : goal.returns-in-Offside
returns-in-Offside c = rw c.in-Offside.is keep_offside

pub returns-in-Offalign : goal.returns-in-Offalign
returns-in-Offalign c = rw c.in-Offalign.is keep_offalign

pub returns-in-Single : goal.returns-in-Single
returns-in-Single c = rw c.in-Single.is keep_single
