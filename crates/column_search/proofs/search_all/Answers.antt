-- The pairs of single tokens are written, and all choices are searched.
use native.Mathlib.Omega.{arith}
use Rattle.spans.proofs.ChangeLaws.{past_then}
use Rattle.column_search.proofs.Searching.{nothing_set, flags_say}
use Rattle.column_search.proofs.search_all.Goals as goal

pub search-requires : goal.search-requires
search-requires c =
    let b = c.begin.ensures in
    record {
      formed = c.requires.formed;
      spread = c.requires.spread;
      count_in_bounds = omega (arith, b.past.long, c.requires.count_in_bounds);
      leaved = b.leaved;
      beside = b.beside;
    }

pub returns : goal.returns
returns c =
    let f = c.search.ensures.searched in
    record {
      flags_say = flags_say nothing_set f.grown f.finds;
      past = past_then c.begin.ensures.past f.leaving.past;
    }
