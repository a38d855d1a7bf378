use native.Mathlib.Omega.{arith}
use Rattle.pair_offsets.proofs.ListLaws.{listed}
use Rattle.pair_entries.proofs.EntryLaws.{starts_none, starts_one}
use Rattle.pair_entries.proofs.add_starts.Goals as goal

pub enter_all-n-requires : goal.enter_all-n-requires
enter_all-n-requires c =
    let r = c.requires in
    let l = rw c.frame_at-f.ensures at
    c.list_evens-end.ensures in record {
      search_words_in_bounds = (
        omega (arith, l.size, r.search_words_in_bounds.0),
        omega
            (arith, r.search_words_in_bounds.2),
        r.search_words_in_bounds.1,
      );
      lists_evens = (listed l, r.le_free.0);
    }

pub returns-then-some_useful : goal.returns-then-some_useful
returns-then-some_useful c =
    let r = c.requires in
    let l = rw c.frame_at-f.ensures at c.list_evens-end.ensures in
    starts_one r.search_words_in_bounds.2 r.le_free.0 r.le_free.1 l c.enter_all-n.ensures

pub returns : goal.returns
returns c = starts_none c.some_useful.ensures c.if-some_useful.false
