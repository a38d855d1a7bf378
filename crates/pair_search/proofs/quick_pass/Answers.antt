use native.Mathlib.Omega.{arith}
use Rattle.pair_search.proofs.RunLaws.{stays, ran_then, ready_same}
use Rattle.pair_search.proofs.quick_pass.Goals as goal

pub loop-i-init : goal.loop-i-init
loop-i-init c = stays tt

pub quick_row-had-requires : goal.quick_row-had-requires
quick_row-had-requires c =
    let r = c.requires in
    let v = c.loop-i.invariant in
    (ready_same v.size v.past r.0, r.1, omega arith)

pub loop-i-preserved : goal.loop-i-preserved
loop-i-preserved c = ran_then (λ p q. tt) c.loop-i.invariant c.quick_row-had.ensures

pub shape_of-words : goal.shape_of-words
shape_of-words c = c.loop-i.invariant.size

pub returns : goal.returns
returns c = c.loop-i.invariant
