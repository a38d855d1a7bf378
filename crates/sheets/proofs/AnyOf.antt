-- A law of `any_of`.
use mathlib.Core.Path.{◌≡◌, refl, sym, ap, ◌∙◌}
use mathlib.Core.List.{List, ◌∷◌, Memᴰ}
use mathlib.Core.Bool.{Bool, true, false, ◌||◌}
use Rattle.sets.proofs.Says.{true_not_false}
use Rattle.sheets.specs.RuleSheets.{any_of}

-- no member has what none has
pub any_none : {A : Type 0} (p : A → Bool) {x : A} (l : List A) → any_of p l ≡ false → Memᴰ x l
    → p x ≡ true → ⊥
any_none {A = A} p {x = x} mathlib.Core.List.[] e x4 t = elim x4 [ ]
any_none p {x} (a ∷ l) e (Memᴰ.head j) t = go (p a) refl
  where
    go : (b : Bool) → p a ≡ b → ⊥
    go true h = true_not_false (sym (ap (λ (y : Bool). y || any_of p l) h) ∙ e)
    go false h = true_not_false (sym t ∙ ap p j ∙ h)
any_none p {x} (a ∷ l) e (Memᴰ.tail m) t = go (λ f. any_none p l f m t) (p a) refl
  where
    go : (any_of p l ≡ false → ⊥) → (b : Bool) → p a ≡ b → ⊥
    go again true h = true_not_false (sym (ap (λ (y : Bool). y || any_of p l) h) ∙ e)
    go again false h = again (sym (ap (λ (y : Bool). y || any_of p l) h) ∙ e)
