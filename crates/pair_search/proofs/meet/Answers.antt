use mathlib.Core.Path.{◌≡◌}
use native.Mathlib.Omega.{arith}
use Rattle.pair_search.proofs.RunLaws.{ready_same, met_none, met_more}
use Rattle.pair_search.proofs.meet.Goals as goal

pub loop-k-init : goal.loop-k-init
loop-k-init c = met_none _ _ _ _ _

pub step_entry-had-requires : goal.step_entry-had-requires
step_entry-had-requires c =
    let r = c.requires in
    let v = c.loop-k.invariant in
    (ready_same v.size v.past r.0, c.loop-k-test.true, r.1, r.2, r.3, r.4)

pub loop-k-preserved : goal.loop-k-preserved
loop-k-preserved c = met_more _ c.loop-k.invariant c.step_entry-had.ensures

pub shape_of-words : goal.shape_of-words
shape_of-words c = c.loop-k.invariant.size

pub returns : goal.returns
returns c =
    let e : c.loop-k.k ≡ c.args.n = omega arith in
    rw e at c.loop-k.invariant
