use native.Mathlib.Omega.{arith}
use Rattle.sets.proofs.Says.{holds, fails}
use Rattle.narrowing.proofs.Walking.{rose_one, rose_more, rose_all}
use Rattle.narrowing.proofs.Walking.{rises_at, after_read}
use Rattle.narrowing.proofs.may_rise.Goals as goal

pub loop-k-init : goal.loop-k-init
loop-k-init c = rose_one

pub bounds-r-k : goal.bounds-r-k
bounds-r-k c = omega (arith, c.requires.few)

pub bounds-r-k-in-loop-k : goal.bounds-r-k-in-loop-k
bounds-r-k-in-loop-k c = omega (arith, c.requires.few)

pub returns-then-not-comes_after : goal.returns-then-not-comes_after
returns-then-not-comes_after c =
    let s = after_read c.args.r c.loop-k.k (omega arith) c.loop-k-test.true
    c.comes_after.ensures c.low_token-a.ensures c.high_token-b.ensures in
    fails (λ m. s.isnt c.if-not-comes_after.true
    (rises_at (omega arith) (omega (arith, c.loop-k-test.true, c.requires.whole)) m))

pub loop-k-preserved : goal.loop-k-preserved
loop-k-preserved c =
    let s = after_read c.args.r c.loop-k.k (omega arith) c.loop-k-test.true
    c.comes_after.ensures c.low_token-a.ensures c.high_token-b.ensures in
    rose_more c.loop-k.k (omega arith) c.loop-k.invariant (s.is c.if-not-comes_after.false)

pub returns : goal.returns
returns c =
    holds (rose_all c.loop-k.k (omega (arith, c.loop-k-test.false, c.requires.whole))
    c.loop-k.invariant)
