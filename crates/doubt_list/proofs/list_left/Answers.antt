use native.Mathlib.Omega.{arith}
use Rattle.doubt_list.proofs.ListLaws.{lists_none, lists_then}
use Rattle.doubt_list.proofs.Going.{skip_rule, skip_rest}
use Rattle.doubt_list.proofs.list_left.Goals as goal

pub loop-p-init : goal.loop-p-init
loop-p-init c =
    (omega arith, lists_none c.requires.grounded.formed c.requires.count_le_at)

pub of_left-requires : goal.of_left-requires
of_left-requires c = (c.requires.grounded.formed, c.loop-p-test.true)

pub loop-p-smaller-then-not-of_left : goal.loop-p-smaller-then-not-of_left
loop-p-smaller-then-not-of_left c = omega (arith, c.loop-p-test.true)

pub loop-p-preserved-then-not-of_left : goal.loop-p-preserved-then-not-of_left
loop-p-preserved-then-not-of_left c =
    let t = c.loop-p-test.true in
    let i = c.loop-p.invariant in
    let n = c.of_left.ensures.isnt c.if-not-of_left.true in (
      omega (arith, t),
      lists_then c.requires.grounded.formed i.1
          (skip_rule c.requires.grounded c.args.a c.loop-p.p
          (omega (arith, t, c.requires.grounded.formed.few)) i.1.few n),
    )

pub list_rule-k-requires : goal.list_rule-k-requires
list_rule-k-requires c =
    let r = c.of_left.ensures.is c.if-not-of_left.false in record {
      grounded = c.requires.grounded;
      a_bound = (c.requires.a_bound, c.loop-p-test.true, r);
      count_le_at = c.loop-p.invariant.1.few;
    }

pub loop-p-smaller : goal.loop-p-smaller
loop-p-smaller c = omega (arith, c.loop-p-test.true)

pub loop-p-preserved : goal.loop-p-preserved
loop-p-preserved c = (
  omega (arith, c.loop-p-test.true),
  lists_then
      c.requires.grounded.formed c.loop-p.invariant.1 c.list_rule-k.ensures,
)

pub shape_of-list : goal.shape_of-list
shape_of-list c = c.loop-p.invariant.1.long

pub returns : goal.returns
returns c =
    let i = c.loop-p.invariant in
    lists_then c.requires.grounded.formed i.1
    (skip_rest c.requires.grounded c.args.a c.loop-p.p i.1.few c.loop-p-test.false
    (omega (arith, i.0, c.requires.grounded.formed.few)))
