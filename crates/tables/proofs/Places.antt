-- Rules by their places: the content of a sheet in the index form.
use mathlib.Core.Path.{◌≡◌, refl, sym}
use mathlib.Core.List.{[], ◌∷◌, Memᴰ}
use mathlib.Core.Option.{some}
use Prim.Native.Nat.{ℕ, zero, suc, ◌<◌, zero-le, suc-le-suc}
use native.Mathlib.Nat.{le_of_suc-le-suc, not-suc-le-zero}
use lib.ListN.{length, get_or, get_elem?}
use Rattle.sets.proofs.Basics.{clash}
use Rattle.grammar.specs.declared.Rule.{Rule}
use Rattle.grammar.specs.Trees.{Rules}
use Rattle.tables.specs.Tables.{no_rule}

pub place : {r : Rule} (g : Rules) → Memᴰ r g
    → (i : ℕ) × (i < length g) × (get_or g i no_rule ≡ r)
place {r = r} [] x' = elim x' [ ]
place (x ∷ g) (Memᴰ.head e) = (0, suc-le-suc zero-le, sym e)
place (x ∷ g) (Memᴰ.tail m) = let p = place g m in (suc p.0, suc-le-suc p.1, p.2)

pub member : (g : Rules) (i : ℕ) → i < length g → Memᴰ (get_or g i no_rule) g
member [] i h = absurd (not-suc-le-zero h)
member (x ∷ g) zero h = Memᴰ.head refl
member (x ∷ g) (suc i) h = Memᴰ.tail (member g i (le_of_suc-le-suc h))

pub there : (g : Rules) (i : ℕ) → i < length g → get_elem? g i ≡ some (get_or g i no_rule)
there [] i h = absurd (not-suc-le-zero h)
there (x ∷ g) zero h = refl
there (x ∷ g) (suc i) h = there g i (le_of_suc-le-suc h)

pub from_there : (g : Rules) (i : ℕ) (r : Rule) → get_elem? g i ≡ some r
    → (i < length g) × (get_or g i no_rule ≡ r)
from_there [] i r e = absurd (clash cc)
from_there (x ∷ g) zero r e = (suc-le-suc zero-le, let z : x ≡ r = cc in z)
from_there (x ∷ g) (suc i) r e = let q = from_there g i r e in (suc-le-suc q.0, q.1)
