-- `tell` meets its contract: the rules that may read one word are listed, the words are cleared.
use Rattle.call_always.proofs.Replies.{all_emptied}
use Rattle.call_always.proofs.tell.Goals as goal

pub returns : goal.returns
returns c = record {
  doubts_told = c.list_weighed.ensures;
  words_after = all_emptied 73728
      c.requires.in_bounds c.weigh-s.ensures.past c.clear.ensures;
}
