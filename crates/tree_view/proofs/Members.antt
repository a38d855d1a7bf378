-- A set's members as a view.
use mathlib.Core.Path.{◌≡◌, refl, sym, ◌∙◌}
use mathlib.Core.Logic.{⊎_elim}
use mathlib.Core.Bool.{Bool, true, false, ◌||◌}
use Prim.Native.Nat.{ℕ, ◌/◌, ◌%◌, ◌^◌}
use native.Mathlib.Decide.{ℕ_discrete}
use lib.Dec.{eqb}
use borrow.Author.Tests.{eq-eqb, ne_eqb}
use Rattle.sets.specs.Says.{Says}
use Rattle.sets.specs.Sets.{In}
use Rattle.sets.proofs.Sets.{in_dec, in_zero, insert_same, insert_keeps, insert_only}
use Rattle.sets.specs.Insertion.{insert}
use Rattle.tree_view.specs.Members.{member}

pub member_in : (s A : ℕ) → In s A → member s A ≡ true
member_in s A h = eq-eqb (s / 2 ^ A % 2) 1 h.digit

pub member_out : (s A : ℕ) → (In s A → ⊥) → member s A ≡ false
member_out s A n = ne_eqb (s / 2 ^ A % 2) 1 (λ e. n (record { digit = e }))

-- what the test of a member says
pub member_says : {b : Bool} (s A : ℕ) → Says b (In s A) → b ≡ member s A
member_says {b} s A x = go b refl x
  where
    go : (b : Bool) → b ≡ b → Says b (In s A) → b ≡ member s A
    go true e x = sym (member_in s A (x.is refl))
    go false e x = sym (member_out s A (x.isnt refl))

-- the empty set has none
pub member_none : (A : ℕ) → member 0 A ≡ false
member_none A = member_out 0 A (in_zero A)

-- one more member
pub member_insert : (s a A : ℕ) → member (insert s a) A ≡ member s A || eqb A a
member_insert s a A = go (in_dec s A) (ℕ_discrete A a)
  where
    go : Dec (In s A) → Dec (A ≡ a) → member (insert s a) A ≡ member s A || eqb A a
    go (yes h) d = member_in (insert s a) A (insert_keeps s a h) ∙ rw (member_in s A h)
    go (no n) (yes e) =
        member_in (insert s a) A (rw e (insert_same s a)) ∙ rw (member_out s A n, eq-eqb A a e)
    go (no n) (no e) = member_out (insert s a) A (λ h. ⊎_elim n e (insert_only s a A h))
        ∙ rw (member_out s A n, ne_eqb A a e)
