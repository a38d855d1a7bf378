use Rattle.pair_offsets.proofs.ListLaws.{added, not_added}
use Rattle.pair_offsets.proofs.with_offset.Goals as goal

pub returns-then-held : goal.returns-then-held
returns-then-held c = rw c.with.ensures
    (added _ _ _ (c.held.ensures.is c.if-held.true))

pub returns : goal.returns
returns c = not_added _ _ _ (c.held.ensures.isnt c.if-held.false)
