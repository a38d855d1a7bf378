use native.Mathlib.Omega.{arith}
use Rattle.pair_search.proofs.RunLaws.{stays, ran_then, ready_same}
use Rattle.pair_search.proofs.quick_cells.Goals as goal

pub loop-j-init : goal.loop-j-init
loop-j-init c = stays tt

pub quick_cell-had-requires : goal.quick_cell-had-requires
quick_cell-had-requires c =
    let r = c.requires in
    let v = c.loop-j.invariant in
    record {
      ready = (ready_same v.size v.past r.ready.0, r.ready.1, r.ready.2, omega arith);
      present = r.present;
    }

pub loop-j-preserved : goal.loop-j-preserved
loop-j-preserved c = ran_then (λ p q. tt) c.loop-j.invariant c.quick_cell-had.ensures

pub shape_of-words : goal.shape_of-words
shape_of-words c = c.loop-j.invariant.size

pub returns : goal.returns
returns c = c.loop-j.invariant
