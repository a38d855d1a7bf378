use mathlib.Core.Path.{◌≡◌, sym, ◌∙◌, subst}
use Prim.Native.Nat.{◌+◌}
use native.Mathlib.Omega.{arith}
use lib.ListN.{length}
use Rattle.marks.specs.Drafts.{drafted}
use Rattle.heights.specs.Filled.{Filled}
use Rattle.heights.proofs.RowLaws.{lefts_formed}
use Rattle.heights.proofs.FillLaws.{filled_first, filled_right}
use Rattle.heights.proofs.settle_all.Goals as goal

pub settle-requires : goal.settle-requires
settle-requires c = (
  record {
    draft = c.requires.whole.0;
    fits = omega arith;
    long = c.requires.filled.long;
  },
  c.requires.whole.1,
)

pub loop-len-init : goal.loop-len-init
loop-len-init c =
    (omega arith, filled_first (lefts_formed c.requires.whole.1) c.requires.filled c.settle.ensures)

pub settle_row-requires : goal.settle_row-requires
settle_row-requires c = record {
  whole = (c.requires.whole.0, omega arith, c.loop-len-test.true, c.requires.whole.1);
  filled = c.loop-len.invariant.1;
}

pub loop-len-preserved : goal.loop-len-preserved
loop-len-preserved c = (omega (arith, c.loop-len-test.true), c.settle_row.ensures)

pub shape_of-hs : goal.shape_of-hs
shape_of-hs c = c.loop-len.invariant.1.long ∙ sym c.requires.filled.long

pub returns : goal.returns
returns c =
    let e : c.loop-len.len ≡ length (drafted c.args.d) + 1 =
    omega (arith, c.loop-len.invariant.0, c.loop-len-test.false, c.requires.whole.0.whole) in
    filled_right (subst (Filled _ _ _ 0) e c.loop-len.invariant.1)

pub returns-2 : goal.returns-2
returns-2 c =
    let e : c.loop-len.len + 1 ≡ length (drafted c.args.d) + 1 =
    omega (arith, c.requires.whole.0.whole) in
    filled_right (subst (Filled _ _ _ 0) e c.settle_row.ensures)
