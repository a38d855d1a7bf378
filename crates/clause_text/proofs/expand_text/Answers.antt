-- `expand_text` meets its contract: the lent bytes are those of the promise of `expand`.
use mathlib.Core.Path.{refl}
use Prim.Native.Nat.{ℕ}
use native.Mathlib.Omega.{arith}
use lib.ListN.{length-replicate}
use Rattle.clause_text.specs.Texts.{expanding}
use Rattle.clause_text.proofs.Fits.{expand_count}
use Rattle.clause_text.proofs.expand_text.Goals as goal

pub put_sheet-requires : goal.put_sheet-requires
put_sheet-requires c =
    let few = expand_count c.expand-r.ensures in
    let long = length-replicate {A = ℕ} 4096 0 in
    record {
      given = omega (arith, few, c.expand-r.auto.out);
      in_bounds = omega (arith, few, long, c.requires);
    }

pub returns : goal.returns
returns c =
    let long = length-replicate {A = ℕ} 4096 0 in
    record { text = _; is = expanding long c.expand-r.ensures refl; wrote = c.put_sheet.ensures }
