use mathlib.Core.Path.{refl}
use native.Mathlib.Omega.{arith}
use Rattle.refilling.proofs.turn_row.Goals as goal

pub returns-then-e-ge64 : goal.returns-then-e-ge64
returns-then-e-ge64 c =
    record { size = refl; inner = λ h. absurd (omega (arith, c.if-e-ge64.true)); last = λ h. refl }

pub turn_pair-requires : goal.turn_pair-requires
turn_pair-requires c =
    let low = c.if-e-ge64.false in
    record {
      c_bound = (omega arith, c.requires.p_in_bounds);
      has_bits = c.requires.has_bits (omega arith);
    }

pub returns : goal.returns
returns c = record {
  size = c.turn_pair.ensures.size;
  inner = λ h. c.turn_pair.ensures;
  last = λ h. absurd (omega (arith, c.if-e-ge64.false));
}
