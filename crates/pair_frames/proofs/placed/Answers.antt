use native.Mathlib.Omega.{arith}
use Rattle.sets.proofs.Says.{holds, fails, says_iff}
use Rattle.pair_frames.proofs.placed.Goals as goal

pub returns-then-kids-gt1 : goal.returns-then-kids-gt1
returns-then-kids-gt1 c =
    says_iff
    (λ h.
    record {
      two = λ k. (h.low, h.high);
      one = λ k. absurd (omega (arith, c.if-kids-gt1.true));
      leaf = λ k. absurd (omega (arith, c.if-kids-gt1.true));
    })
    (λ h. let k = h.two c.if-kids-gt1.true in record { low = k.0; high = k.1 })
    c.amid.ensures

pub returns-then-kids-eq0 : goal.returns-then-kids-eq0
returns-then-kids-eq0 c =
    says_iff
    (λ h.
    record {
      two = λ k. absurd (omega (arith, c.if-kids-eq0.true));
      one = λ k. c.if-i-m.true;
      leaf = λ k. h.absent;
    })
    (λ h. record { absent = h.leaf c.if-kids-eq0.true }) c.none_amid.ensures

pub returns-then-i-m : goal.returns-then-i-m
returns-then-i-m c =
    holds
    (record {
      two = λ k. absurd (omega (arith, c.if-kids-gt1.false));
      one = λ k. c.if-i-m.true;
      leaf = λ k. absurd (c.if-kids-eq0.false k);
    })

pub returns : goal.returns
returns c = fails (λ h. c.if-i-m.false (h.one (omega (arith, c.if-kids-gt1.false))))
