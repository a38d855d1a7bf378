use native.Mathlib.Omega.{arith}
use Rattle.doubt_list.proofs.ListLaws.{lists_none, lists_then}
use Rattle.doubt_list.proofs.Going.{skip_places}
use Rattle.doubt_list.proofs.list_behind.Goals as goal

pub loop-q-init : goal.loop-q-init
loop-q-init c = (
  omega arith,
  omega (arith, c.requires.a_bound.1),
  lists_none c.requires.grounded.formed
      c.requires.count_le_at,
)

pub list_pair-k-requires : goal.list_pair-k-requires
list_pair-k-requires c =
    let i = c.loop-q.invariant in
    record {
      grounded = c.requires.grounded;
      a_bound = (c.requires.a_bound.0, i.0, c.loop-q-test.true, c.requires.a_bound.2);
      count_le_at = i.2.few;
    }

pub loop-q-smaller : goal.loop-q-smaller
loop-q-smaller c = omega (arith, c.loop-q-test.true)

pub loop-q-preserved : goal.loop-q-preserved
loop-q-preserved c =
    let i = c.loop-q.invariant in (
      omega (arith, i.0),
      omega (arith, c.loop-q-test.true),
      lists_then c.requires.grounded.formed i.2 c.list_pair-k.ensures,
    )

pub shape_of-list : goal.shape_of-list
shape_of-list c = c.loop-q.invariant.2.long

pub returns : goal.returns
returns c =
    let i = c.loop-q.invariant in
    let q = c.loop-q.q in
    lists_then c.requires.grounded.formed i.2
    (skip_places c.requires.grounded c.args.a c.args.p q
    (omega (arith, c.requires.a_bound.1, c.requires.grounded.formed.few)) i.2.few
    c.loop-q-test.false
    (omega (arith, i.1, c.requires.grounded.formed.few)))
