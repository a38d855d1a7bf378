-- The table is filled, and the search has what it asks.
use borrow.Author.Rules.{rules}
use Rattle.share_search.proofs.search_over.Goals as goal

pub search-requires : goal.search-requires
search-requires c = record {
  few = c.requires.few;
  formed = c.requires.formed;
  n_in_bounds = c.requires.n_in_bounds;
  tabled = c.fill_table.ensures;
  n_in_bounds_2 = (
    search rules,
    c.prepare.ensures,
  );
}
