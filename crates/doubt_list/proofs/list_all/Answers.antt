use native.Mathlib.Omega.{arith}
use mathlib.Core.Path.{◌≡◌}
use Rattle.doubt_list.proofs.ListLaws.{lists_none, lists_then}
use Rattle.doubt_list.proofs.list_all.Goals as goal

pub loop-a-init : goal.loop-a-init
loop-a-init c =
    (omega arith, lists_none c.requires.grounded.formed c.requires.count_le_at)

pub list_left-k-requires : goal.list_left-k-requires
list_left-k-requires c = record {
  grounded = c.requires.grounded;
  a_bound = c.loop-a-test.true;
  count_le_at = c.loop-a.invariant.1.few;
}

pub loop-a-smaller : goal.loop-a-smaller
loop-a-smaller c = omega (arith, c.loop-a-test.true)

pub loop-a-preserved : goal.loop-a-preserved
loop-a-preserved c = (
  omega (arith, c.loop-a-test.true),
  lists_then
      c.requires.grounded.formed
      c.loop-a.invariant.1
      c.list_left-k.ensures,
)

pub shape_of-list : goal.shape_of-list
shape_of-list c = c.loop-a.invariant.1.long

pub returns : goal.returns
returns c =
    let i = c.loop-a.invariant in
    let e : c.loop-a.a ≡ 64 = omega (arith, i.0, c.loop-a-test.false) in
    rw e at i.1
