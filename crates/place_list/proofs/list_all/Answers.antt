use mathlib.Core.Path.{◌≡◌, refl, ◌∙◌}
use native.Mathlib.Omega.{arith}
use Rattle.place_list.specs.Steps.{entry}
use Rattle.place_list.proofs.ListLaws.{lists_none, lists_then}
use Rattle.place_list.proofs.list_all.Goals as goal

pub loop-len-init : goal.loop-len-init
loop-len-init c = (omega arith, lists_none (entry 0 0 c.args.s.count) c.requires.count_le_at)

pub list_row-k-requires : goal.list_row-k-requires
list_row-k-requires c = let l = c.loop-len in
    record {
      scene = c.requires.scene;
      len_nonzero = (c.loop-len-test.true, l.invariant.0);
      count_le_at = l.invariant.1.few;
    }

pub loop-len-preserved : goal.loop-len-preserved
loop-len-preserved c = let l = c.loop-len in
    (omega (arith, l.invariant.0), lists_then l.invariant.1 c.list_row-k.ensures)

pub list_span-requires : goal.list_span-requires
list_span-requires c = let l = c.loop-len in
    record {
      scene = c.requires.scene;
      len_bound = (omega arith, refl);
      count_le_at = l.invariant.1.few;
    }

pub shape_of-list : goal.shape_of-list
shape_of-list c = c.list_span.ensures.long
    ∙ c.loop-len.invariant.1.long

pub returns : goal.returns
returns c =
    let l = c.loop-len in
    let e : l.len ≡ 0 = omega (arith, c.loop-len-test.false) in
    lists_then (rw e at l.invariant.1) c.list_span.ensures
