-- The verdict is read off the pair of the whole sentence.
use mathlib.Core.Path.{refl}
use Rattle.grammar.proofs.SentenceLaws.{whole}
use Rattle.chart.proofs.SheetLaws.{judged, reads_none, reads_one, reads_two}
use Rattle.filling.proofs.judge.Goals as goal

pub fill_all-requires : goal.fill_all-requires
fill_all-requires c =
    record {
      count_bound = (c.requires.count_bound, refl);
      count_in_bounds = c.requires.count_in_bounds;
      formed = c.requires.formed;
    }

pub returns-then-not-in_first : goal.returns-then-not-in_first
returns-then-not-in_first c =
    let e = whole c.args.s c.well_formed.1.0.1.1.0.1.0.1 c.requires.count_bound in
    (judged e c.requires.count_in_bounds c.fill_all.ensures.exact c.fill_all.ensures.past
    (reads_none e c.fill_all.ensures.exact
    (c.in_first.ensures.isnt c.if-not-in_first.true)))

pub returns-then-in_second : goal.returns-then-in_second
returns-then-in_second c =
    let e = whole c.args.s c.well_formed.1.0.1.1.0.1.0.1 c.requires.count_bound in
    (judged e c.requires.count_in_bounds c.fill_all.ensures.exact c.fill_all.ensures.past
    (reads_two e c.fill_all.ensures.exact (c.in_second.ensures.is c.if-in_second.true)))

pub returns : goal.returns
returns c =
    let e = whole c.args.s c.well_formed.1.0.1.1.0.1.0.1 c.requires.count_bound in
    (judged e c.requires.count_in_bounds c.fill_all.ensures.exact c.fill_all.ensures.past
    (reads_one e c.fill_all.ensures.exact
    (c.in_first.ensures.is
    c.if-not-in_first.false)
    (c.in_second.ensures.isnt c.if-in_second.false)))
