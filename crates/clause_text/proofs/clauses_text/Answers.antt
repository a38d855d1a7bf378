-- `clauses_text` meets its contract: the lent arrays are those of the promise of `trees`.
use mathlib.Core.Path.{refl}
use Prim.Native.Nat.{ℕ}
use native.Mathlib.Omega.{arith}
use lib.ListN.{length-replicate}
use Rattle.answering.proofs.Fits.{trees_fit}
use Rattle.check_text.specs.Check.{Lent, answered}
use Rattle.clause_text.proofs.clauses_text.Goals as goal

pub put_answered-requires : goal.put_answered-requires
put_answered-requires c =
    let f = trees_fit c.trees-r.ensures in
    let one = length-replicate {A = ℕ} 16384 0 in
    record {
      first = omega (arith, f.first, one, c.trees-r.auto.first);
      second = omega (arith, f.second, one, c.trees-r.auto.second);
      in_bounds = omega (arith, f.first, f.second, one, c.requires);
    }

pub returns : goal.returns
returns c =
    let one = length-replicate {A = ℕ} 16384 0 in
    let lent : Lent _ _ _ =
    record { enough = length-replicate {A = ℕ} 4162 0; first = one; second = one } in
    record { text = _; is = answered lent c.trees-r.ensures refl; wrote = c.put_answered.ensures }
