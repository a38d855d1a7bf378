use native.Mathlib.Omega.{arith}
use Rattle.pair_search.proofs.RoundLaws.{filled}
use Rattle.pair_search.proofs.fill_table.Goals as goal

pub clear-requires : goal.clear-requires
clear-requires c = c.requires.0

pub search-requires : goal.search-requires
search-requires c = (omega (arith, c.clear.ensures.past.long, c.requires.0), c.requires.1)

pub returns : goal.returns
returns c = filled c.clear.ensures c.search.ensures
