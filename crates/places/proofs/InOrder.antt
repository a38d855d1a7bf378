-- Lists whose members rise by an order are settled by which members they have.
use mathlib.Core.Path.{◌≡◌, refl, sym, ap₂, ◌∙◌, subst}
use mathlib.Core.Logic.{◌⊎◌, inl, inr, ⊎_elim}
use mathlib.Core.List.{List, [], ◌∷◌, Memᴰ}
use Rattle.grammar.specs.Layout.{Every}
use Rattle.grammar.proofs.Lists.{mem_every}

-- each member comes before those after it
abbrev pub InOrder : {A : Type 0} → (A → A → Type 0) → List A → Type 0
InOrder Before [] = Unit {0}
InOrder Before (e ∷ es) = Every (Before e) es × InOrder Before es

-- a member is the first or one after it
first_or : {A : Type 0} {e f : A} {es : List A} → Memᴰ e (f ∷ es) → (e ≡ f) ⊎ Memᴰ e es
first_or (Memᴰ.head h) = inl h
first_or (Memᴰ.tail m) = inr m

pub no_member : {A : Type 0} {e : A} → Memᴰ e [] → ⊥
no_member = elim [ ]

module _ {A : Type 0} (Before : A → A → Type 0)
    (not_both : (e f : A) → Before e f → Before f e → ⊥) where
  -- where es begins with e and fs with f, which are one, the rest of es is of the rest of fs
  rest : {e f : A} {es fs : List A} → Every (Before e) es → e ≡ f
      → ((x : A) → Memᴰ x (e ∷ es) → Memᴰ x (f ∷ fs)) → (x : A) → Memᴰ x es
      → Memᴰ x fs
  rest {e} {f} {es} {fs} o q to x m =
      ⊎_elim
      (λ y.
      let z : Before e e = subst (Before e) (y ∙ sym q) (mem_every (Before e) es o m) in
      absurd (not_both e e z z))
      (λ y. y) (first_or (to x (Memᴰ.tail m)))

  pub same_entries : (es fs : List A) → InOrder Before es → InOrder Before fs
      → ((x : A) → Memᴰ x es → Memᴰ x fs) → ((x : A) → Memᴰ x fs → Memᴰ x es)
      → es ≡ fs
  same_entries [] [] o p to of = refl
  same_entries [] (f ∷ fs) o p to of = absurd (no_member (of f (Memᴰ.head refl)))
  same_entries (e ∷ es) [] o p to of = absurd (no_member (to e (Memᴰ.head refl)))
  same_entries (e ∷ es) (f ∷ fs) o p to of =
      ap₂ (λ (x : A) (l : List A). x ∷ l) one
      (same_entries es fs o.1 p.1 (rest o.0 one to) (rest p.0 (sym one) of))
    where
      one : e ≡ f
      one =
          ⊎_elim (λ x. x)
          (λ x.
          ⊎_elim (λ y. sym y)
          (λ y. absurd (not_both f e (mem_every (Before f) fs p.0 x)
          (mem_every (Before e) es o.0 y))) (first_or (of f (Memᴰ.head refl))))
          (first_or (to e (Memᴰ.head refl)))
