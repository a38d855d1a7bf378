use Rattle.pair_entries.proofs.EntryLaws.{kinds_if, kinds_unranked}
use Rattle.pair_entries.proofs.useful_kinds.Goals as goal

pub returns-then-ranked : goal.returns-then-ranked
returns-then-ranked c = kinds_if (rw c.frame_at-f.ensures at c.kinds_of.ensures)

pub returns : goal.returns
returns c = kinds_unranked (rw c.frame_at-f.ensures at
    (c.ranked.ensures.isnt c.if-ranked.false))
