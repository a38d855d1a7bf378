-- A list settles the lent bytes and the answer: two results are the same. A call's answer on a
-- list, by the list's own.
use mathlib.Core.Path.{◌≡◌, sym, ap, ◌∙◌}
use mathlib.Core.List.{List, ◌++◌}
use Prim.Native.Nat.{ℕ, ◌-◌}
use native.Mathlib.Omega.{arith}
use lib.ListN.{length, replicate}
use Rattle.lists.specs.Lists.{GivesList, fits, large}

pub gives_settled : {R : Type 0} {given : ℕ → R} {refused : R} {bytes : List ℕ} {n : ℕ}
    {lent a b : List ℕ} {r s : R}
    → GivesList given refused bytes n lent a r → GivesList given refused bytes n lent b s
    → (r ≡ s) × (a ≡ b)
gives_settled (fits h x p) (fits k y q) = (x ∙ sym y, p ∙ sym q)
gives_settled (fits h x p) (large k y q) = absurd (omega arith)
gives_settled (large h x p) (fits k y q) = absurd (omega arith)
gives_settled (large h x p) (large k y q) = (x ∙ sym y, p ∙ sym q)

-- the answer of the one that puts the list becomes a call's by f
pub gives_map : {R S : Type 0} (f : R → S) {given : ℕ → R} {refused : R} {bytes : List ℕ} {n : ℕ}
    {lent lent' : List ℕ} {r : R}
    → GivesList given refused bytes n lent lent' r
    → GivesList (λ m. f (given m)) (f refused) bytes n lent lent' (f r)
gives_map f (fits h x p) = fits h (ap f x) p
gives_map f (large h x p) = large h (ap f x) p

-- of what is lent only its length counts
pub gives_moved : {R : Type 0} {given : ℕ → R} {refused : R} {bytes : List ℕ} {n : ℕ}
    {lent other l : List ℕ} {r : R} → length lent ≡ length other
    → GivesList given refused bytes n lent l r → GivesList given refused bytes n other l r
gives_moved {bytes = bytes} e (fits h x p) =
    fits (omega arith) x (p ∙ ap (λ (k : ℕ). bytes ++ replicate (k - length bytes) 0) e)
gives_moved e (large h x p) = large (omega arith) x (p ∙ ap (λ (k : ℕ). replicate k 0) e)
