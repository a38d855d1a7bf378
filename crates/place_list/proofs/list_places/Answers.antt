-- `list_places` meets its contract: from the first position to the last, then the list's end.
use borrow.Author.Rules.{rules}
use Rattle.place_list.proofs.ListLaws.{listed_first, listed_all}
use Rattle.grammar.specs.Sentences.{spelled}
use Rattle.place_list.proofs.list_places.Goals as goal

pub list_all-l-requires : goal.list_all-l-requires
list_all-l-requires c = record { scene = c.requires; count_le_at = search rules }

pub returns : goal.returns
returns c =
    let first = listed_first c.args.g (spelled c.args.s) c.requires.formed
    c.args.s.count c.requires.positioned.whole
    c.begin.ensures in
    let x = c.list_all-l.ensures.goes first in
    record {
      entries = x.entries;
      places = listed_all c.args.g (spelled c.args.s) c.requires.formed x;
      gives = c.finish.ensures.gives x.puts;
    }
