use mathlib.Core.Path.{refl}
use native.Mathlib.Omega.{arith}
use Rattle.cuts.proofs.put_row.Goals as goal

-- src/lib.rt:210:9
pub returns-then-e-ge64 : goal.returns-then-e-ge64
returns-then-e-ge64 c =
    record { size = refl; inner = λ h. absurd (omega (arith, c.if-e-ge64.true)); last = λ h. refl }

-- src/lib.rt:205:1
pub returns : goal.returns
returns c = record {
  size = c.put_pair.ensures.size;
  inner = λ h. c.put_pair.ensures;
  last = λ h. absurd (omega (arith, c.if-e-ge64.false));
}
