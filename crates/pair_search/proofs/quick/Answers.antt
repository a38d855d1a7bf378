use mathlib.Core.Path.{◌∙◌}
use native.Mathlib.Omega.{arith}
use Rattle.pair_search.proofs.RunLaws.{ready_same}
use Rattle.pair_search.proofs.RoundLaws.{rest_none, rest_more, quick_rested}
use Rattle.pair_search.proofs.RoundLaws.{rest_less}
use Rattle.pair_search.proofs.quick.Goals as goal

pub list_hints-requires : goal.list_hints-requires
list_hints-requires c = let r = c.requires in
    (r.0.room, r.0.few)

pub loop-g-init : goal.loop-g-init
loop-g-init c = rest_none _ _

pub quick_pass-had-requires : goal.quick_pass-had-requires
quick_pass-had-requires c =
    let r = c.requires in
    (ready_same c.loop-g.invariant.size c.loop-g.invariant.past r.0, r.1)

pub shape_of-words-then-had : goal.shape_of-words-then-had
shape_of-words-then-had c = c.quick_pass-had.ensures.size
    ∙ c.loop-g.invariant.size

pub returns-then-had : goal.returns-then-had
returns-then-had c = quick_rested c.loop-g.invariant
    c.quick_pass-had.ensures c.if-had.true

pub loop-g-smaller : goal.loop-g-smaller
loop-g-smaller c =
    rest_less c.quick_pass-had.ensures
    c.if-had.false
    (record { low = λ i. omega (arith, c.slice_known-in-loop-g-1.given i) })

pub loop-g-preserved : goal.loop-g-preserved
loop-g-preserved c = rest_more
    c.loop-g.invariant
    c.quick_pass-had.ensures
    c.if-had.false
