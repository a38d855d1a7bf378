use Rattle.sets.proofs.Says.{holds, fails}
use Rattle.pairs.specs.Settings.{start₁, cut₁, start₂, cut₂, at, stop₁, stop₂}
use Rattle.pair_frames.proofs.FrameLaws.{none_of}
use Rattle.pair_frames.proofs.none_amid.Goals as goal

pub returns-then-amid : goal.returns-then-amid
returns-then-amid c = let h = c.amid.ensures.is c.if-amid.true in
    fails (λ n. n.absent (at start₁) h.low h.high)

pub returns-then-amid-2 : goal.returns-then-amid-2
returns-then-amid-2 c = let h = c.amid-2.ensures.is c.if-amid-2.true in
    fails (λ n. n.absent (at cut₁) h.low h.high)

pub returns-then-amid-3 : goal.returns-then-amid-3
returns-then-amid-3 c = let h = c.amid-3.ensures.is c.if-amid-3.true in
    fails (λ n. n.absent (at start₂) h.low h.high)

pub returns-then-amid-4 : goal.returns-then-amid-4
returns-then-amid-4 c = let h = c.amid-4.ensures.is c.if-amid-4.true in
    fails (λ n. n.absent (at cut₂) h.low h.high)

pub returns-then-amid-5 : goal.returns-then-amid-5
returns-then-amid-5 c = let h = c.amid-5.ensures.is c.if-amid-5.true in
    fails (λ n. n.absent stop₁ h.low h.high)

pub returns-then-amid-6 : goal.returns-then-amid-6
returns-then-amid-6 c = let h = c.amid-6.ensures.is c.if-amid-6.true in
    fails (λ n. n.absent stop₂ h.low h.high)

pub returns : goal.returns
returns c =
    holds
    (none_of
    (c.amid.ensures.isnt c.if-amid.false) (c.amid-2.ensures.isnt c.if-amid-2.false)
    (c.amid-3.ensures.isnt c.if-amid-3.false) (c.amid-4.ensures.isnt c.if-amid-4.false)
    (c.amid-5.ensures.isnt
    c.if-amid-5.false)
    (c.amid-6.ensures.isnt c.if-amid-6.false))
