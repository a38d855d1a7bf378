use native.Mathlib.Omega.{arith}
use Rattle.column_ranges.proofs.Counting.{ended_at}
use Rattle.narrowing.proofs.Walking.{singles_none, singles_more, singles_all}
use Rattle.narrowing.proofs.Walking.{several_here, single_here}
use Rattle.narrowing.proofs.first_token.Goals as goal

pub loop-k-init : goal.loop-k-init
loop-k-init c = singles_none

pub columns-requires : goal.columns-requires
columns-requires c = ended_at c.requires c.loop-k.k c.loop-k-test.true

pub returns-then-columns-gt1 : goal.returns-then-columns-gt1
returns-then-columns-gt1 c = (
  several_here c.requires c.loop-k-test.true c.columns.ensures c.if-columns-gt1.true,
  c.loop-k.invariant,
)

pub loop-k-preserved : goal.loop-k-preserved
loop-k-preserved c =
    singles_more (single_here c.requires c.loop-k-test.true c.columns.ensures
    (λ q. omega (arith, c.if-columns-gt1.false))) c.loop-k.invariant

pub returns : goal.returns
returns c = singles_all (omega (arith, c.requires.whole, c.loop-k-test.false)) c.loop-k.invariant
