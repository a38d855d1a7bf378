use mathlib.Core.Path.{refl, ◌∙◌}
use native.Mathlib.Omega.{arith}
use lib.ListN.{length-set}
use Rattle.grammar.specs.Content.{rules_of}
use Rattle.grammar.specs.Sentences.{spelled}
use Rattle.row_counts.proofs.Firsts.{first_choice}
use Rattle.row_counts.proofs.SizeLaws.{chosen_small}
use Rattle.row_counts.proofs.WalkLaws.{walk_start, own_le, own_some, less_left}
use Rattle.row_counts.proofs.WalkLaws.{leaf_end, leaf_next, walk_split, down_le, down_push}
use Rattle.row_counts.proofs.WalkLaws.{down_same}
use Rattle.row_counts.proofs.WalkLaws.{walk_all, walk_large}
use Rattle.row_counts.proofs.walk.Goals as goal

pub loop-total-init : goal.loop-total-init
loop-total-init c =
    let a = c.args in
    let w = c.requires.ready.0.positioned in
    record {
      there = c.requires.first_there;
      walk = walk_start (rules_of a.g) (spelled a.s) a.b a.j a.n _ c.requires.first_there
          c.requires.ready.1 (omega (arith, c.requires.ready.2, w.whole));
      places = refl;
      low = omega (arith, c.requires.ready.2, w.few);
    }

pub choose-st-requires : goal.choose-st-requires
choose-st-requires c =
    let w = c.loop-total.invariant.walk in record {
      ready = (
        c.requires.ready.0,
        omega (arith, w.fits, w.within, c.requires.ready.0.positioned.whole),
      );
      has_choice = first_choice w.tree w.first _ _ w.rooted w.spelled;
    }

pub own-requires-clause-small : goal.own-requires-clause-small
own-requires-clause-small c = chosen_small c.requires.ready.0.formed c.choose-st.ensures

pub add-total-requires : goal.add-total-requires
add-total-requires c = (c.loop-total.invariant.walk.few, own_le _ _ _ _ c.own.ensures)

pub returns-then-i-end : goal.returns-then-i-end
returns-then-i-end c =
    let a = c.args in
    let v = c.loop-total.invariant in
    walk_all v.there _
    (leaf_end c.requires.ready.0.formed v.walk a.z.now c.requires.nulls c.choose-st.result
    c.choose-st.ensures c.own.result c.add-total.result c.own.ensures c.add-total.ensures
    c.in_default.ensures c.if-i-end.true)

pub loop-total-smaller-in_default : goal.loop-total-smaller-in_default
loop-total-smaller-in_default c = less_left c.loop-total.total c.own.result c.add-total.result
    c.loop-total-test.true (own_some _ _ _ _ c.own.ensures) c.add-total.ensures

pub loop-total-preserved-in_default : goal.loop-total-preserved-in_default
loop-total-preserved-in_default c =
    let a = c.args in
    let v = c.loop-total.invariant in
    record {
      there = v.there;
      walk = leaf_next c.requires.ready.0.formed v.walk a.z.now c.requires.nulls
          c.choose-st.result c.choose-st.ensures c.own.result c.add-total.result
          c.own.ensures c.add-total.ensures c.in_default.ensures c.if-i-end.false;
      places = v.places;
      low = v.low;
    }

pub down-requires : goal.down-requires
down-requires c =
    let v = c.loop-total.invariant in
    walk_split c.requires.ready.0.formed v.walk c.args.z.now c.requires.nulls
    c.choose-st.result c.choose-st.ensures

pub bounds-waits-i-in-Some-right : goal.bounds-waits-i-in-Some-right
bounds-waits-i-in-Some-right c =
    let a = c.args in
    let v = c.loop-total.invariant in
    omega (
      arith,
      down_le c.requires.ready.0.formed v.walk a.z.now c.requires.nulls c.choose-st.result
          c.choose-st.ensures c.own.result c.add-total.result c.in-Some.d
          c.own.ensures c.add-total.ensures c.in-Some.ensures,
      v.walk.fits,
      v.low,
    )

pub loop-total-smaller-in-Some-right : goal.loop-total-smaller-in-Some-right
loop-total-smaller-in-Some-right c = less_left c.loop-total.total c.own.result
    c.add-total.result c.loop-total-test.true (own_some _ _ _ _ c.own.ensures)
    c.add-total.ensures

pub loop-total-preserved-in-Some-right : goal.loop-total-preserved-in-Some-right
loop-total-preserved-in-Some-right c =
    let a = c.args in
    let v = c.loop-total.invariant in
    record {
      there = v.there;
      walk = down_push c.requires.ready.0.formed v.walk a.z.now c.requires.nulls
          c.choose-st.result c.choose-st.ensures c.own.result c.add-total.result c.in-Some.d
          c.own.ensures c.add-total.ensures c.in-Some.ensures
          c.in-Some-right.right c.in-Some-right.is v.places v.low;
      places = length-set c.loop-total.waits _ _ ∙ v.places;
      low = v.low;
    }

pub loop-total-smaller : goal.loop-total-smaller
loop-total-smaller c = less_left c.loop-total.total c.own.result c.add-total.result
    c.loop-total-test.true (own_some _ _ _ _ c.own.ensures) c.add-total.ensures

pub loop-total-preserved : goal.loop-total-preserved
loop-total-preserved c =
    let a = c.args in
    let v = c.loop-total.invariant in
    record {
      there = v.there;
      walk = down_same c.requires.ready.0.formed v.walk a.z.now c.requires.nulls
          c.choose-st.result c.choose-st.ensures c.own.result c.add-total.result c.in-Some.d
          c.own.ensures c.add-total.ensures c.in-Some.ensures c.in_default-right.is;
      places = v.places;
      low = v.low;
    }

pub returns : goal.returns
returns c =
    let v = c.loop-total.invariant in
    walk_all v.there _ (walk_large v.walk (λ h. omega (arith, c.loop-total-test.false)))
