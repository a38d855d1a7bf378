-- One word gets one member.
use Rattle.cuts.proofs.JoinLaws.{joins_set}
use Rattle.contained_spans.proofs.add.Goals as goal

pub returns : goal.returns
returns c = rw c.with.ensures (joins_set _ _ _ c.requires.p_in_bounds)
