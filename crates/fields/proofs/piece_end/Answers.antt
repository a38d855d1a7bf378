use mathlib.Core.Path.{refl, ap}
use native.Mathlib.Omega.{arith}
use borrow.Author.Rules.{rules}
use lib.ListN.{length}
use Rattle.fields.proofs.Pieces.{before_end, before_here, before_more}
use Rattle.fields.proofs.piece_end.Goals as goal

pub loop-i-init : goal.loop-i-init
loop-i-init c = (c.requires, refl)

pub returns-then-s-i : goal.returns-then-s-i
returns-then-s-i c = let a = c.args in
    omega (
      arith,
      ap length (before_here a.b a.s.now c.loop-i.i
          c.loop-i-test.true c.if-s-i.true),
    )

pub loop-i-preserved : goal.loop-i-preserved
loop-i-preserved c = let a = c.args in (
  search rules,
  omega (
    arith,
    ap length
        (before_more a.b a.s.now c.loop-i.i
        c.loop-i-test.true c.if-s-i.false),
  ),
)

pub returns : goal.returns
returns c = let a = c.args in
    omega (
      arith,
      ap length (before_end a.b a.s.now c.loop-i.i
          c.loop-i-test.false),
    )
