use mathlib.Core.Path.{◌≡◌}
use native.Mathlib.Omega.{arith}
use Rattle.pair_search.proofs.RunLaws.{ready_same, rows_none, rows_more}
use Rattle.pair_search.proofs.pass.Goals as goal

pub loop-k-init : goal.loop-k-init
loop-k-init c = rows_none _ _ _

pub row-had-requires : goal.row-had-requires
row-had-requires c =
    let r = c.requires in
    let v = c.loop-k.invariant in
    (ready_same v.size v.past r.0, r.1, omega arith)

pub loop-k-preserved : goal.loop-k-preserved
loop-k-preserved c = rows_more (omega arith) (omega arith) c.loop-k.invariant c.row-had.ensures

pub shape_of-words : goal.shape_of-words
shape_of-words c = c.loop-k.invariant.size

pub returns : goal.returns
returns c =
    let e : c.loop-k.k ≡ 0 = omega arith in
    rw e at c.loop-k.invariant
