-- Fixed bytes at the beginning of a text.
use mathlib.Core.Path.{◌≡◌, refl, sym}
use mathlib.Core.Bool.{Bool, true, false}
use mathlib.Core.List.{List, [], ◌∷◌}
use Prim.Native.Nat.{ℕ}
use borrow.Author.Tests.{eq-eqb}
use lib.Dec.{eqb}
use lib.ListN.{length, drop}
use Rattle.std.specs.List.{starts_with}
use Rattle.std.proofs.lemmas.Bool.Decides.{Decides-eqb}
use Rattle.std.proofs.lemmas.Slice.Eq.{starts_is}
use Rattle.fields.specs.Pieces.{same_bytes}
use Rattle.sets.specs.Says.{Says}
use Rattle.sets.proofs.Says.{holds, fails, true_not_false}
use Rattle.scanning.specs.Scanned.{Starts}

pub same_self : (u : List ℕ) → same_bytes u u ≡ true
same_self [] = refl
same_self (x ∷ u) = rw (eq-eqb x x refl) (same_self u)

-- the text's front is compared
pub starts_says : (l bytes : List ℕ) (b : Bool) → b ≡ starts_with eqb l bytes
    → Says b (Starts l bytes)
starts_says l bytes true e =
    holds (record {
      rest = drop (length bytes) l;
      is = (starts_is Decides-eqb l bytes true e).0 refl;
    })
starts_says l bytes false e =
    fails (λ x. true_not_false (sym ((starts_is Decides-eqb l bytes false e).1 x.rest x.is)))
