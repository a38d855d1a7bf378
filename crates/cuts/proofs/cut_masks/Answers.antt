-- A left length l becomes the cut s + l.
use Rattle.cuts.proofs.MaskLaws.{masked}
use Rattle.cuts.proofs.cut_masks.Goals as goal

pub returns : goal.returns
returns c = masked _ _
