use Rattle.pair_offsets.proofs.ListLaws.{pushed, passed}
use Rattle.pair_offsets.proofs.push_even.Goals as goal

pub returns-then-even : goal.returns-then-even
returns-then-even c =
    pushed _ _ _ _ c.requires (c.even.ensures.is c.if-even.true)

pub returns : goal.returns
returns c = passed _ _ _ _ (c.even.ensures.isnt c.if-even.false)
