-- `listed` meets its contract: 21 by the words' number, else the list by the chart's verdict.
use Rattle.grammar.proofs.VerdictLaws.{none_not_two, one_not_two}
use Rattle.grammar.specs.declared.Verdict.TheVariants as Verdict
use Rattle.sheets.proofs.Exits.{no_line}
use Rattle.answering.proofs.Judging.{filled_by}
use Rattle.call_places.proofs.Placing.{too_few, given_none, placed}
use Rattle.call_places.proofs.listed.Goals as goal

pub returns-then-words-size : goal.returns-then-words-size
returns-then-words-size c =
    too_few c.requires.positioned.whole (rw c.size.ensures at c.if-words-size.true)
    (no_line c.into.ensures)

pub list_two-requires : goal.list_two-requires
list_two-requires c =
    let v = rw c.in-Two.is at c.judge-v.ensures in
    record {
      formed = c.requires.formed;
      positioned = c.requires.positioned;
      span_sheet = (v.sheet, v.verdict);
    }

pub returns-in-None : goal.returns-in-None
returns-in-None c =
    let v = rw c.in-None.is at c.judge-v.ensures in
    let x = given_none c.requires.formed.distinct (none_not_two v.verdict) c.list_none.ensures in
    placed Verdict.None (filled_by c.requires.positioned.whole v) v.verdict x
    (rw c.in-None.is at c.reply.ensures)

pub returns-in-One : goal.returns-in-One
returns-in-One c =
    let v = rw c.in-One.is at c.judge-v.ensures in
    let x = given_none c.requires.formed.distinct (one_not_two v.verdict)
    c.list_none-in-One.ensures in
    placed Verdict.One (filled_by c.requires.positioned.whole v) v.verdict x
    (rw c.in-One.is at c.reply-in-One.ensures)

pub returns-in-Two : goal.returns-in-Two
returns-in-Two c =
    let v = rw c.in-Two.is at c.judge-v.ensures in
    placed Verdict.Two (filled_by c.requires.positioned.whole v) v.verdict c.list_two.ensures
    (rw c.in-Two.is at c.reply-in-Two.ensures)
