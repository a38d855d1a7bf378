use mathlib.Core.Path.{refl, ◌∙◌}
use native.Mathlib.Omega.{arith}
use borrow.Author.Rules.{rules}
use Rattle.pruning.proofs.TableLaws.{slot_low, laid_none, laid_more, laid_all}
use Rattle.pruning.proofs.put_leaves.Goals as goal

pub loop-i-init : goal.loop-i-init
loop-i-init c = (laid_none _, c.requires.mirrored, refl)

pub slot-at-requires : goal.slot-at-requires
slot-at-requires c = (c.requires.n_bound.0, c.loop-i-test.true)

pub overflow_mul-at : goal.overflow_mul-at
overflow_mul-at c = omega (arith, slot_low c.requires.n_bound.1 c.slot-at.ensures)

pub offset_bounds-table-at : goal.offset_bounds-table-at
offset_bounds-table-at c = omega (arith, slot_low c.requires.n_bound.1 c.slot-at.ensures)

pub bounds-table-at : goal.bounds-table-at
bounds-table-at c = omega (
  arith,
  slot_low c.requires.n_bound.1 c.slot-at.ensures,
  c.requires.table_len,
)

pub overflow_add-at : goal.overflow_add-at
overflow_add-at c = omega (arith, slot_low c.requires.n_bound.1 c.slot-at.ensures)

pub offset_bounds-table-at-in-loop-i : goal.offset_bounds-table-at-in-loop-i
offset_bounds-table-at-in-loop-i c = omega (arith, slot_low c.requires.n_bound.1 c.slot-at.ensures)

pub bounds-table-at-in-loop-i : goal.bounds-table-at-in-loop-i
bounds-table-at-in-loop-i c = omega (
  arith,
  slot_low c.requires.n_bound.1 c.slot-at.ensures,
  c.requires.table_len,
)

pub put_leaf-requires : goal.put_leaf-requires
put_leaf-requires c = record {
  n_bound = (
    omega (arith, c.requires.n_bound.0),
    c.loop-i-test.true,
  );
  n_in_bounds = omega (
    arith,
    c.loop-i.invariant.0.past.long,
    c.requires.n_in_bounds,
  );
  mirrored = c.loop-i.invariant.1;
}

pub loop-i-preserved : goal.loop-i-preserved
loop-i-preserved c = (
  laid_more c.loop-i-test.true c.slot-at.ensures c.loop-i.invariant.0
      c.put_leaf.ensures.wrote_pair,
  c.put_leaf.ensures.mirrored_2,
  search rules,
)

pub bounds-table-130 : goal.bounds-table-130
bounds-table-130 c =
    omega (arith, c.requires.table_len)

pub bounds-table-131 : goal.bounds-table-131
bounds-table-131 c = omega
    (arith, c.requires.table_len)

pub put_empty-requires : goal.put_empty-requires
put_empty-requires c = record {
  n_bound = omega (arith, c.requires.n_bound.0);
  n_in_bounds = omega (
    arith,
    c.loop-i.invariant.0.past.long,
    c.requires.n_in_bounds,
  );
  mirrored = c.loop-i.invariant.1;
}

pub shape_of-words : goal.shape_of-words
shape_of-words c = c.put_empty.ensures.wrote_pair.kept.long
    ∙ c.loop-i.invariant.0.past.long

pub returns : goal.returns
returns c = record {
  leaves_put = laid_all (omega (
    arith,
    c.loop-i-test.false,
  ))
      c.loop-i.invariant.0 c.put_empty.ensures.wrote_pair;
  mirrored_2 = c.put_empty.ensures.mirrored_2;
}
