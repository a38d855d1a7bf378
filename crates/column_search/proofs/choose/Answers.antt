-- All choices are searched, and the words that this changed are cleared.
use native.Mathlib.Omega.{arith}
use Rattle.column_search.proofs.Searching.{cleared_after, room_kept}
use Rattle.column_search.proofs.choose.Goals as goal

pub search_all-f-requires : goal.search_all-f-requires
search_all-f-requires c = record {
  formed = c.requires.formed;
  spread = c.requires.spread;
  count_in_bounds = c.requires.count_in_bounds;
  count_in_bounds_2 = room_kept c.requires.spread.few;
}

pub clear-requires : goal.clear-requires
clear-requires c = omega (
  arith,
  c.size-m.ensures,
  c.search_all-f.ensures.past.long,
  c.requires.count_in_bounds,
)

pub returns : goal.returns
returns c = record {
  flags_say = c.search_all-f.ensures.flags_say;
  cleared = cleared_after c.size-m.ensures c.search_all-f.ensures.past c.clear.ensures;
}
