-- `counted` meets its contract: 21 by the words' number, else the rows of the verdict's trees.
use Rattle.sheets.proofs.Exits.{no_line}
use Rattle.answering.proofs.Judging.{filled_by}
use Rattle.answering.proofs.Showing.{first_there, second_there, wants_first, wants_second}
use Rattle.call_rows.proofs.Counting.{has_firsts, too_few, counted_none, counted_one}
use Rattle.call_rows.proofs.Counting.{counted_two}
use mathlib.Core.Path.{refl}
use Rattle.call_rows.proofs.counted.Goals as goal

pub returns-then-words-size : goal.returns-then-words-size
returns-then-words-size c =
    too_few c.requires.positioned.whole (rw c.size.ensures at c.if-words-size.true)
    (no_line c.into.ensures)

pub count_rows-c-requires : goal.count_rows-c-requires
count_rows-c-requires c =
    let v = rw c.in-One.is at c.judge-v.ensures in
    record {
      charted = record {
        formed = c.requires.formed;
        positioned = c.requires.positioned;
        sheet = v.sheet;
      };
      has_firsts = has_firsts;
      wanted = wants_first _ _ v.verdict;
    }

pub count_rows-c-requires-in-Two : goal.count_rows-c-requires-in-Two
count_rows-c-requires-in-Two c =
    let v = rw c.in-Two.is at c.judge-v.ensures in
    record {
      charted = record {
        formed = c.requires.formed;
        positioned = c.requires.positioned;
        sheet = v.sheet;
      };
      has_firsts = has_firsts;
      wanted = wants_second _ _ c.requires.formed.distinct v.verdict;
    }

pub returns-in-None : goal.returns-in-None
returns-in-None c =
    let v = rw c.in-None.is at c.judge-v.ensures in
    rw c.in-None.is (counted_none (filled_by c.requires.positioned.whole v) v.verdict)

pub returns-in-One : goal.returns-in-One
returns-in-One c =
    let v = rw c.in-One.is at c.judge-v.ensures in
    let f = first_there _ _ v.verdict in
    rw c.in-One.is (counted_one (filled_by c.requires.positioned.whole v) v.verdict f.1
    (c.count_rows-c.ensures.first f.0 f.1, c.count_rows-c.ensures.lacking refl))

pub returns-in-Two : goal.returns-in-Two
returns-in-Two c =
    let v = rw c.in-Two.is at c.judge-v.ensures in
    let u = second_there _ _ c.requires.formed.distinct v.verdict in
    rw c.in-Two.is (counted_two (filled_by c.requires.positioned.whole v) v.verdict u.1.first u.1 (
      c.count_rows-c-in-Two.ensures.first u.1.tree u.1.first,
      c.count_rows-c-in-Two.ensures.second refl u.0 u.1,
    ))
