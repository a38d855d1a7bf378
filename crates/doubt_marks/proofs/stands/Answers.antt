-- `doubt_marks::stands` meets its contract.
use Rattle.sets.proofs.Says.{holds, fails}
use Rattle.doubt_marks.proofs.StandLaws.{no_offset, no_terminal, both_found}
use Rattle.doubt_marks.proofs.stands.Goals as goal

pub returns-then-offsets_found-eq0 : goal.returns-then-offsets_found-eq0
returns-then-offsets_found-eq0 c =
    fails (no_offset c.requires.evens
    c.words_of-w.ensures c.offsets_found.ensures c.if-offsets_found-eq0.true)

pub returns-then-tokens_found-eq0 : goal.returns-then-tokens_found-eq0
returns-then-tokens_found-eq0 c =
    fails
    (no_terminal c.requires.evens
    c.words_of-w.ensures
    c.offsets_found.ensures
    c.nexts_of-n.ensures c.tokens_found.ensures c.if-tokens_found-eq0.true)

pub returns : goal.returns
returns c =
    holds
    (both_found c.requires.evens
    c.words_of-w.ensures
    c.offsets_found.ensures
    c.nexts_of-n.ensures c.tokens_found.ensures
    c.if-offsets_found-eq0.false c.if-tokens_found-eq0.false)
