-- `begin` meets its contract.
use mathlib.Core.Path.{refl}
use native.Mathlib.Omega.{arith}
use Rattle.sets.proofs.Basics.{clash}
use Rattle.lists.proofs.begin.Goals as goal

pub returns : goal.returns
returns c =
    record {
      few = omega arith;
      puts = λ lent.
          record {
            long = refl;
            at = λ z. refl;
            within = λ z. omega arith;
            count = λ z. refl;
            front = λ z. refl;
            large = λ z. absurd (clash cc);
          };
    }
