-- `doubt_list::list_doubts` meets its contract: from the first number to the last, then the list's
-- end.
use Rattle.doubt_list.proofs.ListLaws.{listed_first, listed_all}
use Rattle.doubt_list.proofs.list_doubts.Goals as goal

pub returns : goal.returns
returns c =
    let x = c.list_all-l.ensures.goes (listed_first c.requires.formed c.begin.ensures) in
    record {
      entries = x.entries;
      doubts = listed_all c.requires.formed x;
      gives =
          c.finish.ensures.gives x.puts;
    }
