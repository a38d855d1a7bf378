-- `pair_nodes::fill_nodes` meets its contract.
use mathlib.Core.Path.{◌≡◌, refl, ◌∙◌}
use native.Mathlib.Omega.{arith}
use borrow.Author.Rules.{rules}
use Rattle.pair_nodes.proofs.SlotLaws.{slots_none, slots_more, nodes_of, has_weakest}
use Rattle.pair_nodes.proofs.fill_nodes.Goals as goal

pub inherited-levels-requires : goal.inherited-levels-requires
inherited-levels-requires c = c.requires.formed

pub fill_firsts-requires : goal.fill_firsts-requires
fill_firsts-requires c = record { formed = c.requires.formed; in_bounds = search rules }

pub loop-i-init : goal.loop-i-init
loop-i-init c = (omega arith, refl, slots_none)

pub put_shape-requires : goal.put_shape-requires
put_shape-requires c =
    let i = c.loop-i.invariant in
    record {
      formed = (
        c.requires.formed.0,
        c.requires.formed.1,
        c.requires.formed.2,
        c.inherited-levels.ensures,
      );
      in_bounds = (search rules, c.fill_firsts.ensures);
      in_bounds_2 = (omega (arith, i.1, c.requires.in_bounds), omega (arith, c.loop-i-test.true));
    }

pub loop-i-smaller : goal.loop-i-smaller
loop-i-smaller c = omega (arith, c.loop-i-test.true)

pub loop-i-preserved : goal.loop-i-preserved
loop-i-preserved c =
    let i = c.loop-i.invariant in
    let w = c.put_shape.ensures in (
      omega (arith, c.loop-i-test.true),
      w.before.size
          ∙ i.1,
      slots_more i.2 w,
    )

pub shape_of-out : goal.shape_of-out
shape_of-out c = c.loop-i.invariant.1

pub returns : goal.returns
returns c =
    let i = c.loop-i.invariant in
    let e : c.loop-i.i ≡ 384 = omega (arith, i.0, c.loop-i-test.false) in
    record {
      nodes = nodes_of c.requires.formed.0 (omega (arith, i.1, c.requires.in_bounds)) (rw e at i.2);
      marks = has_weakest c.inherited-levels.ensures;
    }
