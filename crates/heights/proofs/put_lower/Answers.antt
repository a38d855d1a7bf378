-- The number falls, or it was no higher.
use mathlib.Core.Path.{refl}
use native.Mathlib.Omega.{arith}
use Rattle.sets.proofs.Basics.{clash}
use Rattle.heights.proofs.put_lower.Goals as goal

pub returns-then-h-hs : goal.returns-then-h-hs
returns-then-h-hs c = record {
  lowered = λ e. (
    c.if-h-hs.true,
    omega arith,
    refl,
  );
  kept = λ e. absurd (clash cc);
}

pub returns : goal.returns
returns c = record { lowered = λ e. absurd (clash cc); kept = λ e. (c.if-h-hs.false, refl) }
