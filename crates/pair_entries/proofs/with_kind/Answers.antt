use Rattle.pair_entries.proofs.EntryLaws.{kind_added, kind_left}
use Rattle.pair_entries.proofs.with_kind.Goals as goal

pub returns-then-suits : goal.returns-then-suits
returns-then-suits c = rw c.with.ensures
    (kind_added _ _ _ (c.suits.ensures.is c.if-suits.true))

pub returns : goal.returns
returns c = kind_left _ _ _ (c.suits.ensures.isnt c.if-suits.false)
