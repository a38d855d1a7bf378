-- `check_text::check_sheets` meets its contract: the lent arrays are those of the promise of
-- `trees`.
use mathlib.Core.Path.{refl}
use Prim.Native.Nat.{ℕ}
use native.Mathlib.Omega.{arith}
use lib.ListN.{length-replicate}
use Rattle.sheets.proofs.Readings.{rules_told}
use Rattle.answering.proofs.Fits.{trees_fit}
use Rattle.answering.proofs.Readings.{trees_by}
use Rattle.check_text.specs.Check.{Lent, answered}
use Rattle.check_text.proofs.check_sheets.Goals as goal

pub put_answered-requires : goal.put_answered-requires
put_answered-requires c =
    let f = trees_fit c.trees_read-r.ensures in
    let one = length-replicate {A = ℕ} 16384 0 in
    record {
      first = omega (arith, f.first, one, c.trees_read-r.auto.first);
      second = omega (arith, f.second, one, c.trees_read-r.auto.second);
      in_bounds = omega (arith, f.first, f.second, one, c.requires);
    }

pub returns : goal.returns
returns c =
    let one = length-replicate {A = ℕ} 16384 0 in
    let by = trees_by (rules_told _ c.read_rules.ensures) c.args.tokens.now
    c.trees_read-r.ensures in
    let lent : Lent _ _ _ =
    record { enough = length-replicate {A = ℕ} 4162 0; first = one; second = one } in
    record { text = _; is = answered lent by refl; wrote = c.put_answered.ensures }
