-- `clauses_sweep_text` meets its contract: the lent words are those of the promise of `sweep`.
use mathlib.Core.Path.{refl}
use Prim.Native.Nat.{ℕ}
use native.Mathlib.Omega.{arith}
use lib.ListN.{length-replicate}
use Rattle.sweep_text.specs.Sweep.{swept}
use Rattle.sweep_answers.proofs.Few.{sweep_few}
use Rattle.clause_text.proofs.clauses_sweep_text.Goals as goal

pub put_swept-requires : goal.put_swept-requires
put_swept-requires c =
    let f = sweep_few c.sweep-r.ensures in
    record { few = omega (arith, f); in_bounds = omega (arith, f, c.requires) }

pub returns : goal.returns
returns c =
    let few = length-replicate {A = ℕ} 58 0 in
    record { text = _; is = swept few c.sweep-r.ensures refl; wrote = c.put_swept.ensures }
