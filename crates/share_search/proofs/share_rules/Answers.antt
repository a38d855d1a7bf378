-- A share meets its contract: what was found is spelled, and the words that the search changed are
-- cleared.
use Rattle.sweeping.proofs.Answers.{all_cleared}
use Rattle.share_search.proofs.Reports.{lowest_at, none_at, found_low, shared_of}
use Rattle.share_search.proofs.share_rules.Goals as goal

pub sentence-requires : goal.sentence-requires
sentence-requires c = (
  c.requires.le_n.1,
  found_low (lowest_at _ _ _ _ _ _ c.in-Some.is c.find-found.ensures.found),
)

pub returns-in-None : goal.returns-in-None
returns-in-None c = record {
  shared = none_at _ _ _ _ _ c.in-None.is c.find-found.ensures.found;
  words_after = all_cleared c.args.n c.size-m.ensures
      c.requires.n_in_bounds c.find-found.ensures.past c.clear.ensures;
}

pub returns-in-Some : goal.returns-in-Some
returns-in-Some c = record {
  shared = shared_of (lowest_at _ _ _ _ _ _ c.in-Some.is c.find-found.ensures.found)
      c.sentence.ensures;
  words_after = all_cleared c.args.n c.size-m.ensures
      c.requires.n_in_bounds c.find-found.ensures.past c.clear.ensures;
}
