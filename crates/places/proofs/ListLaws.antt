-- The list of places: there is one at most, and it is empty exactly if the sentence has not two
-- trees.
use mathlib.Core.Path.{◌≡◌, refl, subst}
use mathlib.Core.Logic.{inl, inr, ◌↔◌}
use mathlib.Core.List.{List, [], ◌∷◌, Memᴰ}
use native.Mathlib.Omega.{arith}
use Rattle.grammar.specs.Layout.{Word, Every}
use Rattle.grammar.specs.Trees.{Rules, TwoTrees}
use Rattle.grammar.proofs.Lists.{mem_every}
use Rattle.places.proofs.InOrder.{InOrder, no_member, same_entries}
use Rattle.places.specs.Places.{Place, Entry, Sooner, Ordered, AllPlaces}
use Rattle.places.proofs.PlaceLaws.{place_two, two_place}
use Rattle.grammar.specs.Distinct.{Distinct}

sooner_not : (e f : Entry) → Sooner e f → Sooner f e → ⊥
sooner_not e f (inl x) (inl y) = omega arith
sooner_not e f (inl x) (inr (inl y)) = omega (arith, y.0)
sooner_not e f (inl x) (inr (inr y)) = omega (arith, y.0)
sooner_not e f (inr (inl x)) (inl y) = omega (arith, x.0)
sooner_not e f (inr (inl x)) (inr (inl y)) = omega (arith, x.1, y.1)
sooner_not e f (inr (inl x)) (inr (inr y)) = omega (arith, x.1, y.1)
sooner_not e f (inr (inr x)) (inl y) = omega (arith, x.0)
sooner_not e f (inr (inr x)) (inr (inl y)) = omega (arith, x.1, y.1)
sooner_not e f (inr (inr x)) (inr (inr y)) = omega (arith, x.2, y.2)

in_order : (es : List Entry) → Ordered es → InOrder Sooner es
in_order [] o = tt
in_order (e ∷ es) o = (o.0, in_order es o.1)

-- THE LIST IS SETTLED
pub places_same : {g : Rules} {ts : Word} {es fs : List Entry} → AllPlaces g ts es
    → AllPlaces g ts fs → es ≡ fs
places_same {es = es} {fs} a b =
    same_entries Sooner sooner_not es fs (in_order es a.ordered) (in_order fs b.ordered)
    (λ e m. b.all e.nonterminal e.start e.len (mem_every _ es a.each m))
    (λ e m. a.all e.nonterminal e.start e.len (mem_every _ fs b.each m))

-- THE LIST IS EMPTY EXACTLY IF THE VERDICT IS NOT TWO
pub places_empty : {g : Rules} {ts : Word} {es : List Entry} → Distinct g → AllPlaces g ts es
    → (es ≡ []) ↔ (TwoTrees g 0 ts → ⊥)
places_empty {g} {ts} {es} d a = (
  λ e t. let p =
      two_place t in no_member
      (subst (λ (l : List Entry). Memᴰ
      (record { nonterminal = p.0; start = p.1; len = p.2 }) l) e
      (a.all p.0 p.1 p.2 p.3)),
  λ n. none es a.each n,
)
  where
    none : (l : List Entry) → Every (λ e. Place g ts e.nonterminal e.start e.len) l
        → (TwoTrees g 0 ts → ⊥) → l ≡ []
    none [] x n = refl
    none (e ∷ l) x n = absurd (n (place_two d x.0))

-- where there are not two trees, the empty list is the list
pub places_none : {g : Rules} {ts : Word} → Distinct g → (TwoTrees g 0 ts → ⊥) → AllPlaces g ts []
places_none d n = record { each = tt; all = λ A s l p. absurd (n (place_two d p)); ordered = tt }
