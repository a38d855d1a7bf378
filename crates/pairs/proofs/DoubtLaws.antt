-- The list of doubts: there is one at most, and it is empty exactly if the sheet passes.
use mathlib.Core.Path.{◌≡◌, refl, subst}
use mathlib.Core.Logic.{inl, inr, ◌↔◌}
use mathlib.Core.List.{List, [], ◌∷◌, Memᴰ}
use native.Mathlib.Omega.{arith}
use Rattle.grammar.specs.Layout.{Every}
use Rattle.grammar.specs.Trees.{Rules}
use Rattle.grammar.proofs.Lists.{mem_every}
use Rattle.places.proofs.InOrder.{InOrder, no_member, same_entries}
use Rattle.pairs.specs.Doubts.{Doubt, Doubted, DoubtBefore, DoubtsInOrder, AllDoubts}
use Rattle.pairs.specs.Always.{PassesTest}

-- a doubt that comes before another does not come after it
pub not_both : (d e : Doubt) → DoubtBefore d e → DoubtBefore e d → ⊥
not_both d e (inl x) (inl y) = omega arith
not_both d e (inl x) (inr (inl y)) = omega (arith, y.0)
not_both d e (inl x) (inr (inr (inl y))) = omega (arith, y.0)
not_both d e (inl x) (inr (inr (inr y))) = omega (arith, y.0)
not_both d e (inr (inl x)) (inl y) = omega (arith, x.0)
not_both d e (inr (inl x)) (inr (inl y)) = omega (arith, x.1, y.1)
not_both d e (inr (inl x)) (inr (inr (inl y))) = omega (arith, x.1, y.1)
not_both d e (inr (inl x)) (inr (inr (inr y))) = omega (arith, x.1, y.1)
not_both d e (inr (inr (inl x))) (inl y) = omega (arith, x.0)
not_both d e (inr (inr (inl x))) (inr (inl y)) = omega (arith, x.1, y.1)
not_both d e (inr (inr (inl x))) (inr (inr (inl y))) = omega (arith, x.2, y.2)
not_both d e (inr (inr (inl x))) (inr (inr (inr y))) = omega (arith, x.2, y.2)
not_both d e (inr (inr (inr x))) (inl y) = omega (arith, x.0)
not_both d e (inr (inr (inr x))) (inr (inl y)) = omega (arith, x.1, y.1)
not_both d e (inr (inr (inr x))) (inr (inr (inl y))) = omega (arith, x.2, y.2)
not_both d e (inr (inr (inr x))) (inr (inr (inr y))) = omega (arith, x.3, y.3)

pub in_order : (ds : List Doubt) → DoubtsInOrder ds → InOrder DoubtBefore ds
in_order [] o = tt
in_order (d ∷ ds) o = (o.0, in_order ds o.1)

-- THE LIST IS SETTLED
pub doubts_same : {g : Rules} {ds es : List Doubt} → AllDoubts g ds → AllDoubts g es → ds ≡ es
doubts_same {g} {ds} {es} a b =
    same_entries DoubtBefore not_both ds es (in_order ds a.ordered) (in_order es b.ordered)
    (λ d m. b.all d (mem_every (Doubted g) ds a.each m))
    (λ d m. a.all d (mem_every (Doubted g) es b.each m))

-- THE LIST IS EMPTY EXACTLY IF THE SHEET PASSES
pub doubts_empty : {g : Rules} {ds : List Doubt} → AllDoubts g ds → (ds ≡ []) ↔ PassesTest g
doubts_empty {g} {ds} a = (
  λ e. record { passes = λ d x. no_member (subst (Memᴰ d) e (a.all d x)) },
  λ p. none p ds a.each,
)
  where
    none : PassesTest g → (l : List Doubt) → Every (Doubted g) l → l ≡ []
    none p [] x = refl
    none p (d ∷ l) x = absurd (p.passes d x.0)
