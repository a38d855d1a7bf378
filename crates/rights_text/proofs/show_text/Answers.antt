-- `show_text` meets its contract: the lent arrays are those of the promise of `show`.
use mathlib.Core.Path.{refl}
use Prim.Native.Nat.{ℕ}
use native.Mathlib.Omega.{arith}
use lib.ListN.{length-replicate}
use Rattle.check_text.specs.Check.{Lent}
use Rattle.rights_text.specs.Texts.{shown}
use Rattle.rights_text.proofs.Fits.{show_fit}
use Rattle.rights_text.proofs.show_text.Goals as goal

pub put_answered-requires : goal.put_answered-requires
put_answered-requires c =
    let f = show_fit c.show-r.ensures in
    let one = length-replicate {A = ℕ} 16384 0 in
    record {
      first = omega (arith, f.first, one, c.show-r.auto.first);
      second = omega (arith, f.second, one, c.show-r.auto.second);
      in_bounds = omega (arith, f.first, f.second, one, c.requires);
    }

pub returns : goal.returns
returns c =
    let one = length-replicate {A = ℕ} 16384 0 in
    let lent : Lent _ _ _ =
    record { enough = length-replicate {A = ℕ} 4162 0; first = one; second = one } in
    record { text = _; is = shown lent c.show-r.ensures refl; wrote = c.put_answered.ensures }
