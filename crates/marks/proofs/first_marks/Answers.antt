-- One token has none on a later line, and no left length.
use mathlib.Core.Path.{refl}
use Rattle.marks.proofs.Joining.{carried_first}
use Rattle.marks.proofs.first_marks.Goals as goal

pub returns : goal.returns
returns c = record { same = refl; carried = λ h s e f. carried_first h s _ _ e f }
