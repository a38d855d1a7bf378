use mathlib.Core.Path.{◌∙◌}
use native.Mathlib.Omega.{arith}
use Rattle.pair_search.proofs.RunLaws.{ready_same}
use Rattle.pair_search.proofs.RoundLaws.{rest_none, rest_more, rested, rest_less}
use Rattle.pair_search.proofs.passes.Goals as goal

pub loop-n-init : goal.loop-n-init
loop-n-init c = rest_none _ _

pub pass-requires : goal.pass-requires
pass-requires c =
    let v = c.loop-n.invariant in (
      ready_same v.size v.past c.requires.0,
      c.requires.1,
    )

pub shape_of-words-then-pass : goal.shape_of-words-then-pass
shape_of-words-then-pass c = c.pass.ensures.size
    ∙ c.loop-n.invariant.size

pub returns-then-pass : goal.returns-then-pass
returns-then-pass c = rested c.loop-n.invariant
    c.pass.ensures c.if-pass.true

pub loop-n-smaller : goal.loop-n-smaller
loop-n-smaller c =
    rest_less c.pass.ensures c.if-pass.false
    (record { low = λ i. omega (arith, c.slice_known-in-loop-n-1.given i) })

pub loop-n-preserved : goal.loop-n-preserved
loop-n-preserved c = rest_more c.loop-n.invariant
    c.pass.ensures c.if-pass.false
