use native.Mathlib.Omega.{arith}
use Rattle.pair_search.proofs.RoundLaws.{search_none, search_more, searched}
use Rattle.pair_search.proofs.RoundLaws.{search_less}
use Rattle.pair_search.proofs.search.Goals as goal

pub loop-init : goal.loop-init
loop-init c = search_none _ _

pub round-requires : goal.round-requires
round-requires c = (
  omega (
    arith,
    c.loop.invariant.size,
    c.requires.0,
  ),
  c.requires.1,
)

pub shape_of-words-then-round : goal.shape_of-words-then-round
shape_of-words-then-round c = (search_more c.loop.invariant
    c.round.ensures).size

pub returns-then-round : goal.returns-then-round
returns-then-round c =
    searched c.loop.invariant
    c.round.ensures c.if-round.true
    (record { low = λ i. omega (arith, c.slice_known-in-loop-1.given i) })

pub loop-smaller : goal.loop-smaller
loop-smaller c =
    search_less c.round.ensures c.if-round.false
    (record { low = λ i. omega (arith, c.slice_known-in-loop-1.given i) })

pub loop-preserved : goal.loop-preserved
loop-preserved c = search_more c.loop.invariant
    c.round.ensures
