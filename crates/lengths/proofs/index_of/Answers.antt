-- `lengths::index_of` meets its contract.
use Rattle.lengths.proofs.Growing.{sound_none, held_formed, open_none}
use Rattle.lengths.proofs.index_of.Goals as goal

pub completed-requires : goal.completed-requires
completed-requires c = let e = c.no_lengths.ensures in
    (held_formed c.requires, sound_none e, open_none e)

pub returns : goal.returns
returns c = c.completed.ensures
