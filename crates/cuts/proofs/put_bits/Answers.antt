use native.Mathlib.Omega.{arith}
use Rattle.cuts.proofs.PutLaws.{putting_more, putting_done}
use Rattle.cuts.proofs.put_bits.Goals as goal

pub loop-a-preserved : goal.loop-a-preserved
loop-a-preserved c =
    let l = c.loop-a in
    let m = c.in-Some.ensures.steps in
    rw m.1
    (putting_more c.with.result m.0 (omega (arith, m.0.small, l.invariant.size, c.requires.1))
    c.with.ensures l.invariant)

pub shape_of-words : goal.shape_of-words
shape_of-words c = c.loop-a.invariant.size

pub returns : goal.returns
returns c = putting_done c.in-None.ensures.steps.0 c.loop-a.invariant
