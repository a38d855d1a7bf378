use mathlib.Core.Bool.{Bool, true, false, ◌&&◌}
use mathlib.Core.Logic.{◌⊎◌, inl, inr}
use mathlib.Core.Path.{◌≡◌, refl, sym}
use Rattle.sets.proofs.Says.{true_not_false}
use Rattle.pair_tables.proofs.TableLaws.{put_all}
use Rattle.pair_tables.proofs.put.Goals as goal

all_true : (x y z : Bool) → (x && y && z) ≡ true → (x ≡ true) × (y ≡ true) × (z ≡ true)
all_true true true z e = (refl, refl, e)
all_true true false z e = absurd (true_not_false (sym e))
all_true false y z e = absurd (true_not_false (sym e))

one_false : (x y z : Bool) → (x && y && z) ≡ false → (x ≡ false) ⊎ ((y ≡ false) ⊎ (z ≡ false))
one_false true true z e = inr (inr e)
one_false true false z e = inr (inl refl)
one_false false y z e = inl refl

pub returns : goal.returns
returns c =
    let x = c.join-x.result in
    let y = c.join-y.result in
    let z = c.join-z.result in
    put_all c.join-x.ensures c.join-y.ensures c.join-z.ensures _ (all_true x y z) (one_false x y z)
