use mathlib.Core.Path.{◌≡◌}
use native.Mathlib.Omega.{arith}
use Rattle.pair_search.proofs.RoundLaws.{round_none, round_next, ready}
use Rattle.pair_search.proofs.round.Goals as goal

pub loop-p-init : goal.loop-p-init
loop-p-init c = (round_none _ _, omega arith)

pub prepare-s-requires : goal.prepare-s-requires
prepare-s-requires c = (
  omega (
    arith,
    c.loop-p.invariant.0.size,
    c.requires.0,
  ),
  omega arith,
)

pub settle-had-requires : goal.settle-had-requires
settle-had-requires c =
    let q = c.prepare-s.ensures in (
      ready (omega (
        arith,
        q.same.size,
        c.loop-p.invariant.0.size,
        c.requires.0,
      )) q,
      c.requires.1,
    )

pub loop-p-smaller : goal.loop-p-smaller
loop-p-smaller c = omega (
  arith,
  c.prepare-s.ensures.more,
  c.loop-p-test.true,
)

pub loop-p-preserved : goal.loop-p-preserved
loop-p-preserved c = (
  round_next _ c.loop-p.invariant.0 c.prepare-s.ensures
      c.settle-had.ensures c.both_settled-still.ensures,
  c.prepare-s.ensures.most,
)

pub shape_of-words : goal.shape_of-words
shape_of-words c = c.loop-p.invariant.0.size

pub returns : goal.returns
returns c =
    let e : c.loop-p.p ≡ 1296 = omega arith in
    rw e at c.loop-p.invariant.0
