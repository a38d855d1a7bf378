-- `change_text` meets its contract: the lent bytes are those of the promise of `change`.
use mathlib.Core.Path.{refl}
use Prim.Native.Nat.{ℕ}
use native.Mathlib.Omega.{arith}
use lib.ListN.{length-replicate}
use Rattle.rights_text.specs.Texts.{changing}
use Rattle.rights_text.proofs.Fits.{change_count}
use Rattle.rights_text.proofs.change_text.Goals as goal

pub put_sheet-requires : goal.put_sheet-requires
put_sheet-requires c =
    let few = change_count c.change-r.ensures in
    let long = length-replicate {A = ℕ} 16400 0 in
    record {
      given = omega (arith, few, c.change-r.auto.bytes);
      in_bounds = omega (arith, few, long, c.requires);
    }

pub returns : goal.returns
returns c =
    let long = length-replicate {A = ℕ} 16400 0 in
    record { text = _; is = changing long c.change-r.ensures refl; wrote = c.put_sheet.ensures }
