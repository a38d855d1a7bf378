use Rattle.pair_entries.proofs.EntryLaws.{entered_none, entered_one}
use Rattle.pair_entries.proofs.enter.Goals as goal

pub returns-then-kinds-eq0 : goal.returns-then-kinds-eq0
returns-then-kinds-eq0 c =
    entered_none _ _ _ _ (c.useful_kinds-kinds.ensures.absent c.if-kinds-eq0.true)

pub returns : goal.returns
returns c = entered_one c.requires.search_words_in_bounds.1
    c.put_entry.ensures
    (c.useful_kinds-kinds.ensures.present
    c.if-kinds-eq0.false)
    c.requires.lists_evens.0
    c.requires.lists_evens.1
