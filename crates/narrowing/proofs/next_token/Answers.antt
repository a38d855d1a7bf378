use native.Mathlib.Omega.{arith}
use Rattle.column_ranges.proofs.Counting.{ended_at}
use Rattle.narrowing.proofs.Walking.{singles_none, seeking_low, seeking_pick, seeking_pass}
use Rattle.narrowing.proofs.Walking.{seeking_all, several_here, single_here}
use Rattle.narrowing.proofs.next_token.Goals as goal

pub loop-k-init : goal.loop-k-init
loop-k-init c = singles_none

pub columns-requires : goal.columns-requires
columns-requires c = ended_at c.requires c.loop-k.k c.loop-k-test.true

pub loop-k-preserved-then-columns-lt-SEVERAL : goal.loop-k-preserved-then-columns-lt-SEVERAL
loop-k-preserved-then-columns-lt-SEVERAL c =
    seeking_pass c.requires _ _
    (single_here c.requires c.loop-k-test.true c.columns.ensures
    (λ q. omega (arith, c.if-columns-lt-SEVERAL.true))) c.loop-k.invariant

pub wider-requires : goal.wider-requires
wider-requires c = (
  omega (arith, c.requires.few),
  c.loop-k-test.true,
  seeking_low c.requires _ _
      c.loop-k.invariant,
)

pub loop-k-preserved : goal.loop-k-preserved
loop-k-preserved c =
    seeking_pick c.requires _ _ _
    (several_here c.requires c.loop-k-test.true c.columns.ensures (omega arith))
    c.wider.ensures c.loop-k.invariant

pub returns : goal.returns
returns c = seeking_all c.requires _ _ c.loop-k-test.false c.loop-k.invariant
