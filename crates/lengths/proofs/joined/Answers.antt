-- `lengths::joined` meets its contract.
use Rattle.lengths.proofs.SmallSets.{sums_with, sums_without, moved_is}
use Rattle.lengths.proofs.joined.Goals as goal

pub returns-then-has : goal.returns-then-has
returns-then-has c =
    rw (moved_is c.args.t c.args.i c.requires.1 c.requires.0)
    (sums_with _ _ _ _ (c.has.ensures.is c.if-has.true) c.requires.2)

pub returns : goal.returns
returns c =
    sums_without _ _ _ _ (c.has.ensures.isnt c.if-has.false) c.requires.2
