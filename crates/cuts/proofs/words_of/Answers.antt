use mathlib.Core.Path.{ap}
use Rattle.cuts.specs.Cuts.{words_of_of}
use Rattle.cuts.proofs.words_of.Goals as goal

-- src/lib.rt:122:1
pub returns : goal.returns
returns c = let z = c.args in
    ap (words_of_of z.words.now z.p) c.wide.ensures
