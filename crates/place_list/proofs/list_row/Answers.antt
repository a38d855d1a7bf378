use Prim.Native.Nat.{◌+◌}
use native.Mathlib.Omega.{arith}
use Rattle.place_list.specs.Steps.{entry}
use Rattle.place_list.proofs.ListLaws.{lists_none, lists_then, lists_right, lists_down}
use Rattle.place_list.proofs.ListLaws.{start_some}
use Rattle.grammar.specs.Sentences.{spelled}
use Rattle.place_list.proofs.list_row.Goals as goal

pub loop-start-init : goal.loop-start-init
loop-start-init c = lists_none (entry 0 0 c.args.len) c.requires.count_le_at

pub list_span-k-requires : goal.list_span-k-requires
list_span-k-requires c = let l = c.loop-start in record {
  scene = c.requires.scene;
  len_bound = (
    omega (arith, c.loop-start-test.true, c.requires.len_nonzero),
    start_some l.start c.args.len c.requires.len_nonzero.0,
  );
  count_le_at = l.invariant.few;
}

pub loop-start-preserved : goal.loop-start-preserved
loop-start-preserved c =
    let l = c.loop-start in
    let x = c.list_span-k.ensures in
    lists_then (lists_then l.invariant x)
    (lists_right c.args.g (spelled c.args.s) c.requires.scene.formed x.few l.start c.args.len)

pub shape_of-list : goal.shape_of-list
shape_of-list c = c.loop-start.invariant.long

pub returns-2 : goal.returns-2
returns-2 c =
    let a = c.args in
    let l = c.loop-start in
    let f = c.requires.scene.formed in
    let x = c.list_span-k.ensures in
    lists_then
    (lists_then (lists_then l.invariant x)
    (lists_right a.g (spelled a.s) f x.few l.start a.len))
    (lists_down a.g (spelled a.s) f x.few (l.start + 1) a.len c.requires.len_nonzero.0
    (omega (arith, c.requires.len_nonzero.1, c.requires.scene.positioned.whole)))
