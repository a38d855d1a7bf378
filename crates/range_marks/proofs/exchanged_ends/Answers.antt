use mathlib.Core.Path.{refl}
use native.Mathlib.Omega.{arith}
use borrow.Author.Rules.{rules}
use Rattle.range_marks.proofs.Bounds.{exchanging_none, exchanging_more}
use Rattle.range_marks.proofs.Bounds.{exchanging_all}
use Rattle.range_marks.proofs.exchanged_ends.Goals as goal

pub loop-i-init : goal.loop-i-init
loop-i-init c = (exchanging_none _, search rules)

pub bounds-r-i : goal.bounds-r-i
bounds-r-i c = omega (arith, c.requires.0, c.loop-i-test.true)

pub loop-i-smaller : goal.loop-i-smaller
loop-i-smaller c = omega (arith, c.loop-i-test.true)

pub loop-i-preserved : goal.loop-i-preserved
loop-i-preserved c =
    let v = c.loop-i.invariant in (
      exchanging_more (omega (arith, v.1, c.loop-i-test.true, c.requires.0))
          v.0 c.exchange.ensures,
      v.1,
    )

pub returns : goal.returns
returns c =
    let v = c.loop-i.invariant in
    let p = c.requires in (
      refl,
      exchanging_all (omega (arith, v.1, p.0)) p.1 (omega (arith, c.loop-i-test.false))
          v.0,
    )
