-- Words that stand in a word.
use mathlib.Core.Path.{◌≡◌, refl, subst}
use mathlib.Core.Logic.{◌⊎◌, inl, inr}
use mathlib.Core.List.Memᴰ
use mathlib.Core.List.{[], ◌∷◌, ◌++◌, append-nil, append_assoc, Memᴰ}
use Rattle.grammar.specs.declared.Token.{Token}
use Rattle.grammar.specs.Layout.{Word}
use Rattle.grammar.proofs.Lists.{both?, or?}
use Rattle.grammar.proofs.Marks.{token?}

-- u stands in w
pub record Infix (u w : Word) : Type 0 where
  pub before : Word
  pub after : Word
  pub spells : before ++ (u ++ after) ≡ w

-- u begins w, and u stands in w, by recursion
abbrev pub Prefix : Word → Word → Type 0
Prefix [] w = Unit {0}
Prefix (t ∷ u) [] = ⊥
Prefix (t ∷ u) (x ∷ w) = (t ≡ x) × Prefix u w

abbrev pub FoundIn : Word → Word → Type 0
FoundIn u [] = Prefix u []
FoundIn u (x ∷ w) = Prefix u (x ∷ w) ⊎ FoundIn u w

abbrev pub prefix? : (u w : Word) → Dec (Prefix u w)
prefix? [] w = yes tt
prefix? (t ∷ u) [] = no (λ x. x)
prefix? (t ∷ u) (x ∷ w) = let r = prefix? u w in both? (token? t x) r

abbrev pub within? : (u w : Word) → Dec (FoundIn u w)
within? u [] = prefix? u []
within? u (x ∷ w) = let r = within? u w in or? (prefix? u (x ∷ w)) r

begins : (u v : Word) → Prefix u (u ++ v)
begins [] v = tt
begins (t ∷ u) v = (refl, begins u v)

here : (u w : Word) → Prefix u w → FoundIn u w
here u [] p = p
here u (x ∷ w) p = inl p

stands : (p u q : Word) → FoundIn u (p ++ (u ++ q))
stands [] u q = here u (u ++ q) (begins u q)
stands (x ∷ p) u q = inr (stands p u q)

pub within : {u w : Word} → Infix u w → FoundIn u w
within {u} i = subst (λ (x : Word). FoundIn u x) i.spells (stands i.before u i.after)

pub infix_self : (w : Word) → Infix w w
infix_self w = record { before = []; after = []; spells = append-nil w }

pub infix_left : (u v : Word) {w : Word} → Infix (u ++ v) w → Infix u w
infix_left u v i = record {
  before = i.before;
  after = v
      ++ i.after;
  spells = rw (← append_assoc u v) i.spells;
}

pub infix_right : (u v : Word) {w : Word} → Infix (u ++ v) w → Infix v w
infix_right u v i = record {
  before = i.before ++ u;
  after = i.after;
  spells = rw append_assoc
      (rw (← append_assoc u v) i.spells);
}

pub infix_mem : {t : Token} {w : Word} → Infix (t ∷ []) w → Memᴰ t w
infix_mem {t} i = subst (λ (x : Word). Memᴰ t x) i.spells
    (Memᴰ.append_right i.before (Memᴰ.head refl))
