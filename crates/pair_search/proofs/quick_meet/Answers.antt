use Rattle.pair_search.proofs.RunLaws.{stays, ran_then, ready_same}
use Rattle.pair_search.proofs.quick_meet.Goals as goal

pub loop-at-init : goal.loop-at-init
loop-at-init c = (stays tt, c.hints_end-end.ensures)

pub hinted-had-requires : goal.hinted-had-requires
hinted-had-requires c =
    let r = c.requires in
    let v = c.loop-at.invariant.0 in
    (ready_same v.size v.past r.0, r.1, r.2, r.3, r.4)

pub next_hint-at-requires-in-loop-at : goal.next_hint-at-requires-in-loop-at
next_hint-at-requires-in-loop-at c = c.loop-at.invariant.1

pub loop-at-preserved : goal.loop-at-preserved
loop-at-preserved c =
    let v = c.loop-at.invariant in
    (ran_then (λ p q. tt) v.0 c.hinted-had.ensures, v.1)

pub shape_of-words : goal.shape_of-words
shape_of-words c = c.loop-at.invariant.0.size

pub returns : goal.returns
returns c = c.loop-at.invariant.0
