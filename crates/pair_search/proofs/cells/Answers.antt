use mathlib.Core.Path.{◌≡◌}
use native.Mathlib.Omega.{arith}
use Rattle.pair_search.proofs.RunLaws.{ready_same, row_none, row_more}
use Rattle.pair_search.proofs.cells.Goals as goal

pub loop-j-init : goal.loop-j-init
loop-j-init c = row_none _ _ _ _

pub cell-had-requires : goal.cell-had-requires
cell-had-requires c =
    let r = c.requires in
    let v = c.loop-j.invariant in
    record {
      ready = (ready_same v.size v.past r.ready.0, r.ready.1, r.ready.2, omega arith);
      present = r.present;
    }

pub loop-j-preserved : goal.loop-j-preserved
loop-j-preserved c = row_more (omega arith) (omega arith) c.loop-j.invariant c.cell-had.ensures

pub shape_of-words : goal.shape_of-words
shape_of-words c = c.loop-j.invariant.size

pub returns : goal.returns
returns c =
    let e : c.loop-j.j ≡ 0 = omega arith in
    rw e at c.loop-j.invariant
