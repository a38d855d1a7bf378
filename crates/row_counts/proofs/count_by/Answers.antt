-- `count_by` meets its contract: the table over the empty word, then the walk of the first tree and
-- what there is of the second.
use native.Mathlib.Omega.{arith}
use Rattle.grammar.specs.Rows.{row_count}
use Rattle.grammar.specs.Content.{rules_of}
use Rattle.row_counts.specs.Capped.{capped}
use Rattle.tree_choices.proofs.PreferLaws.{wanted_first}
use Rattle.row_counts.proofs.CappedLaws.{capped_le}
use Rattle.row_counts.proofs.NullLaws.{sound_none}
use Rattle.row_counts.proofs.Firsts.{spanned, spanned_there}
use Rattle.row_counts.proofs.count_by.Goals as goal

pub null_counts-requires : goal.null_counts-requires
null_counts-requires c = record {
  ready = c.requires.ready;
  has_firsts = c.requires.has_firsts;
  sound = sound_none (rules_of c.args.g);
}

pub count_first-a-requires : goal.count_first-a-requires
count_first-a-requires c =
    let p = c.requires.ready.positioned in
    record {
      ready = (c.requires.ready, omega arith, omega arith);
      nulls = c.null_counts.ensures;
      first_there = spanned_there c.args.s.count p.whole (wanted_first _ c.requires.wanted).goal;
    }

pub told-first-requires : goal.told-first-requires
told-first-requires c =
    let count-first = c.count_first-a in
    let t = wanted_first _ c.requires.wanted in
    omega (
      arith,
      count-first.ensures t.tree
          (spanned c.args.s.count c.requires.ready.positioned.whole t.goal),
      capped_le
          (row_count t.tree),
    )

pub told-second-requires : goal.told-second-requires
told-second-requires c = c.count_second-b.ensures.small

pub returns : goal.returns
unfolding capped
returns c =
    let first = c.count_first-a.ensures in
    let second = c.count_second-b.ensures in
    record {
      first = λ t f. c.told-first.ensures (row_count t)
          (first t (spanned c.args.s.count c.requires.ready.positioned.whole f));
      second = λ e u v. c.told-second.ensures (row_count u) (second.counted e u v);
      lacking = λ e. c.told-second.ensures 0 (second.lacking e);
    }
