-- The sweep meets its contract: what was found is spelled, the candidates tried are counted, and
-- the words that the search changed are cleared.
use Rattle.sweeping.proofs.Answers.{first_of, tried_of, clear_of, none_tried, found_low}
use Rattle.sweeping.proofs.Answers.{swept_of, all_cleared, lengths_of, admits_of}
use Rattle.sweeping.proofs.sweep_rules.Goals as goal

pub find-found-requires : goal.find-found-requires
find-found-requires c = record {
  le_k = (c.requires.bounded.low, c.requires.bounded.high);
  formed = c.requires.formed;
  admits = admits_of (lengths_of c.requires.exact);
  k_in_bounds = c.requires.k_in_bounds;
}

pub counted-tried-requires : goal.counted-tried-requires
counted-tried-requires c =
    record {
      formed = c.requires.formed;
      bounded = c.requires.bounded;
      lengths_of = lengths_of c.requires.exact;
      found = c.find-found.ensures.found;
    }

pub sentence-requires : goal.sentence-requires
sentence-requires c =
    found_low c.in-Some.h c.requires.bounded.high
    (first_of _ _ _ _ c.in-Some.is c.find-found.ensures.found)

pub returns-in-None : goal.returns-in-None
returns-in-None c = record {
  swept = (
    clear_of _ _ _ c.in-None.is c.find-found.ensures.found,
    none_tried _ _ _ c.in-None.is c.counted-tried.ensures,
  );
  words_after = all_cleared c.args.k c.size-m.ensures c.requires.k_in_bounds
      c.find-found.ensures.past c.clear.ensures;
}

pub returns-in-Some : goal.returns-in-Some
returns-in-Some c = record {
  swept = swept_of c.in-Some.h (first_of _ _ _ _ c.in-Some.is c.find-found.ensures.found)
      c.sentence.ensures (tried_of _ _ _ _ c.in-Some.is c.counted-tried.ensures);
  words_after = all_cleared c.args.k c.size-m.ensures c.requires.k_in_bounds
      c.find-found.ensures.past c.clear.ensures;
}
