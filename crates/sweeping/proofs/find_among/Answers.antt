-- The table is filled, and the search has what it asks.
use borrow.Author.Rules.{rules}
use Rattle.sweeping.proofs.find_among.Goals as goal

pub search-requires : goal.search-requires
search-requires c = record {
  le_k = c.requires.le_k;
  lowest = c.requires.lowest;
  formed = c.requires.formed;
  admits = c.requires.admits;
  k_in_bounds = c.requires.k_in_bounds;
  tabled = c.fill_table.ensures;
  k_in_bounds_2 = (
    search rules,
    c.prepare.ensures,
  );
}
