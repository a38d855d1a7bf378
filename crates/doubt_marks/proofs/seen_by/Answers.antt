-- `doubt_marks::seen_by` meets its contract.
use mathlib.Core.Path.{refl}
use native.Mathlib.Omega.{arith}
use Rattle.doubt_marks.proofs.SeenLaws.{seen_start, seen_exactly}
use Rattle.doubt_marks.proofs.seen_by.Goals as goal

pub loop-seen-init : goal.loop-seen-init
loop-seen-init c = (record { digit = refl }, seen_start _ _)

pub seen_pass-next-requires : goal.seen_pass-next-requires
seen_pass-next-requires c = c.requires

pub returns-then-next-seen : goal.returns-then-next-seen
returns-then-next-seen c =
    let i = c.loop-seen.invariant in
    seen_exactly _ _ i.0 i.1 c.seen_pass-next.ensures c.if-next-seen.true

pub loop-seen-smaller : goal.loop-seen-smaller
loop-seen-smaller c = omega (arith, c.seen_pass-next.ensures.more, c.seen_pass-next.type_inv)

pub loop-seen-preserved : goal.loop-seen-preserved
loop-seen-preserved c =
    let i = c.loop-seen.invariant in
    let s = c.seen_pass-next.ensures in
    (s.keeps 0 i.0, s.sound i.1)
