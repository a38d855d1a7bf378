-- `sweep_text::sweep_sheet` meets its contract: the lent words are those of the promise of `sweep`.
use mathlib.Core.Path.{refl}
use Prim.Native.Nat.{ℕ}
use native.Mathlib.Omega.{arith}
use lib.ListN.{length-replicate}
use Rattle.sweep_text.specs.Sweep.{swept}
use Rattle.sheets.proofs.Readings.{rules_told}
use Rattle.sweep_answers.proofs.Few.{sweep_few}
use Rattle.sweep_answers.proofs.Readings.{sweep_by}
use Rattle.sweep_text.proofs.sweep_sheet.Goals as goal

pub put_swept-requires : goal.put_swept-requires
put_swept-requires c =
    let f = sweep_few c.sweep_read-r.ensures in
    record { few = omega (arith, f); in_bounds = omega (arith, f, c.requires) }

pub returns : goal.returns
returns c =
    let few = length-replicate {A = ℕ} 58 0 in
    let by = sweep_by (rules_told _ c.read_rules.ensures) c.sweep_read-r.ensures in
    record { text = _; is = swept few by refl; wrote = c.put_swept.ensures }
