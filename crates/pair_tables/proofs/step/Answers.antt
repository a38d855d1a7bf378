use Rattle.pair_tables.specs.Stepping.{has_all, no_offsets}
use Rattle.pair_tables.proofs.TableLaws.{none_most}
use Rattle.pair_tables.proofs.step.Goals as goal

pub returns-then-m-eq0 : goal.returns-then-m-eq0
returns-then-m-eq0 c = no_offsets c.words_of-w.ensures
    (none_most _ _ _ c.starts_most-m.ensures c.if-m-eq0.true)

pub returns-then-had_all : goal.returns-then-had_all
returns-then-had_all c = has_all c.words_of-w.ensures
    c.starts_most-m.ensures
    (c.had_all.ensures.is c.if-had_all.true)

pub returns : goal.returns
returns c = c.add.ensures
