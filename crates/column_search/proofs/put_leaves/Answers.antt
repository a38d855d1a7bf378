use native.Mathlib.Omega.{arith}
use Rattle.chart.proofs.SingleLaws.{written_none, written_more, written_all}
use Rattle.column_search.proofs.put_leaves.Goals as goal

pub loop-i-init : goal.loop-i-init
loop-i-init c = (
  written_none _ _ c.empty_pair-e.ensures c.put_empty.ensures.wrote_pair,
  c.put_empty.ensures.mirrored_2,
)

pub leaf_at-l-requires : goal.leaf_at-l-requires
leaf_at-l-requires c =
    let w = c.put_empty.ensures.wrote_pair in
    let l = c.loop-i.invariant.0 in
    record {
      i_lt_count = (c.loop-i-test.true, c.requires.count_bound);
      count_in_bounds = omega (arith, l.past.long, w.kept.long, c.requires.count_in_bounds);
      formed = c.requires.formed;
      empty_pair = c.empty_pair-e.ensures;
      leading = record { leaves = l.leaves };
    }

pub put_leaf-requires : goal.put_leaf-requires
put_leaf-requires c =
    let w = c.put_empty.ensures.wrote_pair in
    let l = c.loop-i.invariant in
    record {
      n_bound = (c.requires.count_bound, c.loop-i-test.true);
      n_in_bounds = omega (arith, l.0.past.long, w.kept.long, c.requires.count_in_bounds);
      mirrored = l.1;
    }

pub loop-i-preserved : goal.loop-i-preserved
loop-i-preserved c = (
  written_more c.loop-i-test.true c.loop-i.invariant.0 c.leaf_at-l.ensures
      c.put_leaf.ensures.wrote_pair,
  c.put_leaf.ensures.mirrored_2,
)

pub returns : goal.returns
returns c = record {
  begun = written_all (omega arith) c.put_empty.ensures.wrote_pair.kept c.loop-i.invariant.0;
  mirrored_2 = c.loop-i.invariant.1;
}
