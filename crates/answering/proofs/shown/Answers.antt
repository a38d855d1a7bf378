-- `shown` meets its contract: 21 by the words' number, else the trees of the chart's verdict.
use mathlib.Core.Option.{none, some}
use Rattle.tree_writer.specs.Memories.{second, no_second}
use Rattle.answering.specs.Trees.{showing}
use Rattle.answering.proofs.Judging.{filled_by}
use Rattle.answering.proofs.Showing.{too_few, first_there, second_there, wants_first}
use Rattle.answering.proofs.Showing.{wants_second, shown_none, shown_one, shown_two}
use Rattle.answering.proofs.shown.Goals as goal

pub returns-then-words-size : goal.returns-then-words-size
returns-then-words-size c =
    rw c.into.ensures
    (too_few _ _ _ _ _ _ _ c.requires.positioned.whole (rw c.size.ensures at c.if-words-size.true))

pub write_trees-requires : goal.write_trees-requires
write_trees-requires c =
    let v = rw c.in-One.is at c.judge-v.ensures in record {
      charted = record {
        formed = c.requires.formed;
        positioned = c.requires.positioned;
        sheet = v.sheet;
      };
      wanted = wants_first _ _
          v.verdict;
    }

pub write_trees-requires-in-Two : goal.write_trees-requires-in-Two
write_trees-requires-in-Two c =
    let v = rw c.in-Two.is at c.judge-v.ensures in record {
      charted = record {
        formed = c.requires.formed;
        positioned = c.requires.positioned;
        sheet = v.sheet;
      };
      wanted = wants_second _ _
          c.requires.formed.distinct v.verdict;
    }

pub returns-in-None : goal.returns-in-None
returns-in-None c =
    let v = rw c.in-None.is at c.judge-v.ensures in
    showing (filled_by c.requires.positioned.whole v)
    (rw (c.fitted.ensures, c.in-None.is)
    (shown_none _ _ _ v.verdict (c.write_none.ensures _)))

pub returns-in-One : goal.returns-in-One
returns-in-One c =
    let v = rw c.in-One.is at c.judge-v.ensures in
    let f = first_there _ _ v.verdict in
    showing (filled_by c.requires.positioned.whole v)
    (rw (c.fitted-in-One.ensures, c.in-One.is)
    (shown_one _ _ _ v.verdict f.1
    (c.write_trees.ensures f.0 none f.1
    no_second)))

pub returns-in-Two : goal.returns-in-Two
returns-in-Two c =
    let v = rw c.in-Two.is at c.judge-v.ensures in
    let u = second_there _ _ c.requires.formed.distinct v.verdict in
    showing (filled_by c.requires.positioned.whole v)
    (rw (c.fitted-in-Two.ensures, c.in-Two.is)
    (shown_two _ _ _ v.verdict u.1.first u.1
    (c.write_trees-in-Two.ensures u.1.tree
    (some u.0) u.1.first (second u.1))))
