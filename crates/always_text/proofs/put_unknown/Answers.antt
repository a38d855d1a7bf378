-- `put_unknown` meets its contract: the line is 0.
use mathlib.Core.Path.{◌≡◌}
use mathlib.Core.List.{[], ◌∷◌}
use native.Mathlib.Omega.{arith}
use Rattle.printing.specs.Printing.{decimal}
use Rattle.printing.proofs.Decimals.{decimal_one}
use Rattle.always_text.proofs.put_unknown.Goals as goal

pub returns : goal.returns
returns c =
    let nought : decimal 0 ≡ 48 ∷ [] = decimal_one 0 (omega arith) in
    record {
      wrote = rw nought c.put_bytes.ensures;
      upper_bound = omega (arith, c.put_bytes.ensures.next);
    }
