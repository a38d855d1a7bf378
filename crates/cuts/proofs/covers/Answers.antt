-- What both have is all of the others.
use mathlib.Core.Path.{sym}
use Rattle.sets.proofs.Bits.{in_and}
use Rattle.sets.proofs.Says.{says_eqb}
use Rattle.cuts.proofs.Bits.{in_word}
use Rattle.cuts.proofs.covers.Goals as goal

pub returns : goal.returns
returns c = λ e a i. let v = c.args in
    ((in_and v.others v.set a).0 (in_word (sym ((says_eqb _ _).is e)) i)).1
