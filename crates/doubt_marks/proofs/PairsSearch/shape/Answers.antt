-- `doubt_marks::Pairs::shape` meets its contract.
use mathlib.Core.Path.{◌≡◌}
use native.Mathlib.Omega.{arith}
use Rattle.doubt_marks.proofs.GrowLaws.{grows_none, grows_more, grows_map, grows_still}
use Rattle.doubt_marks.proofs.SeenLaws.{sort_to, sort_back}
use Rattle.doubt_marks.proofs.PairsSearch.shape.Goals as goal

pub returns-then-not-present : goal.returns-then-not-present
returns-then-not-present c =
    grows_still (λ p q d. c.present.ensures.isnt c.if-not-present.true d.holds.is.may.there₁)

pub has-requires : goal.has-requires
has-requires c = c.node_at-x.ensures.1.sort

pub returns-then-not-has : goal.returns-then-not-has
returns-then-not-has c =
    grows_still
    (λ p q d.
    c.has.ensures.isnt c.if-not-has.true
    (sort_back c.args.t.nodes.now c.args.i c.node_at-x.ensures.0 d.seen))

pub loop-j-init : goal.loop-j-init
loop-j-init c = grows_none

pub mark_pair-requires : goal.mark_pair-requires
mark_pair-requires c = record {
  evens = c.requires.evens;
  in_bounds = (
    c.requires.in_bounds.0,
    c.loop-j-test.true,
    omega (arith, c.loop-j.invariant.size, c.requires.in_bounds.1),
  );
}

pub loop-j-preserved : goal.loop-j-preserved
loop-j-preserved c = grows_more c.loop-j.invariant c.mark_pair.ensures

pub shape_of-out : goal.shape_of-out
shape_of-out c = c.loop-j.invariant.size

pub returns : goal.returns
returns c =
    let e : c.loop-j.j ≡ 384 = omega arith in
    let s =
    sort_to c.args.t.nodes.now c.args.i
    c.node_at-x.ensures.0
    (c.has.ensures.is c.if-not-has.false) in
    grows_map (rw e at c.loop-j.invariant) (λ p q d. record { seen = s; holds = d })
    (λ p q d. d.holds)
