-- `places_text` meets its contract: the lent arrays are those of the promise of `places`.
use mathlib.Core.Path.{refl}
use Prim.Native.Nat.{ℕ}
use native.Mathlib.Omega.{arith}
use lib.ListN.{length-replicate}
use Rattle.printing.proofs.Writing.{wrote_none, wrote_then}
use Rattle.text_trees.specs.Places.{answered}
use Rattle.text_trees.proofs.PlaceLines.{places_fit}
use Rattle.text_trees.proofs.places_text.Goals as goal

pub put_listed-requires : goal.put_listed-requires
put_listed-requires c =
    let f = places_fit (rw c.in-Ok.is at c.places.ensures) in
    let l = length-replicate {A = ℕ} 49152 0 in record {
      count_in_bounds = omega (arith, f, l, c.places.auto.list);
      count_in_bounds_2 = omega (
        arith,
        f,
        l,
        c.put_head-n.ensures.upper_bound,
        c.put_head-n.ensures.wrote.long,
        c.requires,
      );
    }

pub returns-in-Ok : goal.returns-in-Ok
returns-in-Ok c =
    let by = rw c.in-Ok.is at c.places.ensures in
    record {
      text = _;
      is = answered (length-replicate {A = ℕ} 4162 0) (length-replicate {A = ℕ} 49152 0) by refl;
      wrote =
          wrote_then (rw c.into.ensures at c.put_head-n.ensures.wrote) c.put_listed.ensures;
    }

pub returns-in-Err : goal.returns-in-Err
returns-in-Err c =
    let by = rw c.in-Err.is at c.places.ensures in
    record {
      text = _;
      is = answered (length-replicate {A = ℕ} 4162 0) (length-replicate {A = ℕ} 49152 0) by refl;
      wrote = wrote_then c.put_head.ensures.wrote (wrote_none _ _);
    }
