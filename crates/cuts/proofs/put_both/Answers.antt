use borrow.Author.Rules.{rules}
use Prim.Native.Nat.{◌+◌, ◌*◌, ◌<◌}
use native.Mathlib.Omega.{arith}
use mathlib.Core.Path.{◌∙◌}
use lib.ListN.{length, set, length-set}
use Rattle.cuts.proofs.PutLaws.{twice_more, twice_at, twice_done}
use Rattle.cuts.proofs.put_both.Goals as goal

pub loop-a-preserved : goal.loop-a-preserved
loop-a-preserved c =
    let l = c.loop-a in
    let m = c.in-Some.ensures.steps in
    let at = 2 * c.in-Some.a in
    let to = c.args.p + at in
    let w = c.with in
    let w2 = c.with-in-loop-a in
    let w3 = c.with-in-loop-a-2 in
    let w4 = c.with-in-loop-a-3 in
    let in_rows : at + 1 < length l.rows =
    omega (arith, m.0.small, l.invariant.0.1, c.requires.e_bound.1) in
    let in_cols : to + 1 < length l.cols =
    omega (arith, m.0.small, l.invariant.1.1, c.requires.c_bound.1) in
    rw m.1 (
      (
        twice_at at w.result w2.result m.0 (omega arith) in_rows w.ensures w2.ensures
            l.invariant.0.0,
        length-set (set l.rows at w.result) (at + 1) w2.result
            ∙ length-set l.rows at w.result ∙ l.invariant.0.1,
      ),
      (
        twice_more w3.result m.0 in_cols w3.ensures l.invariant.1.0 w4.result w4.ensures,
        length-set (set l.cols to w3.result) (to + 1) w4.result
            ∙ length-set l.cols to w3.result ∙ l.invariant.1.1,
      ),
    )

pub shape_of-rows : goal.shape_of-rows
shape_of-rows c = c.loop-a.invariant.0.1

pub shape_of-cols : goal.shape_of-cols
shape_of-cols c = c.loop-a.invariant.1.1

pub returns : goal.returns
returns c =
    let l = c.loop-a in record {
      put_pair = twice_done (search rules) c.in-None.ensures.steps.0
          l.invariant.0.0;
      put_pair_2 = twice_done (search rules) c.in-None.ensures.steps.0 l.invariant.1.0;
    }
