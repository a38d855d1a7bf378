-- A rules and the terminals that they cover: the test of a clause says what `Covers` says, and what
-- one rule more brings.
use mathlib.Core.Path.{◌≡◌, refl, sym, ap, subst}
use mathlib.Core.Bool.{true, ◌&&◌}
use mathlib.Core.Logic.{◌⊎◌, inl, inr, ⊎_elim}
use mathlib.Core.List.Memᴰ
use mathlib.Core.List.{[], ◌∷◌, ◌++◌, Memᴰ}
use Prim.Native.Nat.{ℕ}
use lib.Dec.{leb}
use borrow.Author.Tests.{le-leb, leb-true}
use Rattle.sets.proofs.Basics.{both}
use Rattle.sets.proofs.Says.{true_not_false}
use Rattle.grammar.specs.declared.Rule.{Rule}
use Rattle.grammar.specs.declared.Clause.{Clause}
use Rattle.grammar.specs.Trees.{Rules, Covers, HasAtom}
use Rattle.grammar.specs.Sweeps.{is_atom_of}

pub is_covers : (a b x : ℕ) → (leb a x && leb x b) ≡ true → Covers a b x
is_covers a b x e = let h = both (leb a x) (leb x b) e in
    record { low = leb-true a x h.0; high = leb-true x b h.1 }

pub covers_is : (a b x : ℕ) → Covers a b x → (leb a x && leb x b) ≡ true
covers_is a b x h = rw (le-leb a x h.low, le-leb x b h.high) refl

-- the clause of a test that was passed
pub is_atom : (x : ℕ) (k : Clause) → is_atom_of x k ≡ true
    → (a : ℕ) × (b : ℕ) × (k ≡ Clause.Atom a b) × Covers a b x
is_atom x Clause.Empty e = absurd (true_not_false (sym e))
is_atom x (Clause.Atom a b) e = (a, b, refl, is_covers a b x e)
is_atom x (Clause.Unary B m) e = absurd (true_not_false (sym e))
is_atom x (Clause.Binary B C m) e = absurd (true_not_false (sym e))

pub atom_is : (x a b : ℕ) (k : Clause) → k ≡ Clause.Atom a b → Covers a b x → is_atom_of x k ≡ true
atom_is x a b k e h = subst (λ (c : Clause). is_atom_of x c ≡ true) (sym e) (covers_is a b x h)

-- a rule that passes the test is one for the terminal
pub has_atom : {g : Rules} (r : Rule) (x : ℕ) → Memᴰ r g → is_atom_of x r.clause ≡ true
    → HasAtom g r.left x
has_atom {g} r x m e =
    let k = is_atom x r.clause e in
    record {
      low = k.0;
      high = k.1;
      rule = subst (λ (s : Rule). Memᴰ s g)
          (λ i. record { left = r.left; clause = k.2 i }) m;
      covers = k.3;
    }

-- an A rule is one of more rules too
pub atom_over : {g g' : Rules} → ((r : Rule) → Memᴰ r g → Memᴰ r g') → {A x : ℕ}
    → HasAtom g A x → HasAtom g' A x
atom_over f h = record { low = h.low; high = h.high; rule = f _ h.rule; covers = h.covers }

-- ---- one rule more

pub atom_more : (g : Rules) (r : Rule) {A x : ℕ} → HasAtom g A x → HasAtom (g ++ (r ∷ [])) A x
atom_more g r = atom_over (λ s m. Memᴰ.append_left (r ∷ []) m)

pub atom_here : (g : Rules) (r : Rule) {x : ℕ} → is_atom_of x r.clause ≡ true
    → HasAtom (g ++ (r ∷ [])) r.left x
atom_here g r {x} e = has_atom r x (Memᴰ.append_right g (Memᴰ.head refl)) e

pub atom_cases : (g : Rules) (r : Rule) {A x : ℕ} → HasAtom (g ++ (r ∷ [])) A x
    → HasAtom g A x ⊎ ((r.left ≡ A) × (is_atom_of x r.clause ≡ true))
atom_cases g r {A} {x} h =
    ⊎_elim (λ m. inl (record { low = h.low; high = h.high; rule = m; covers = h.covers }))
    (λ q. let e = Memᴰ.eq_of_singleton q in
    inr (
      ap (λ (s : Rule). s.left) (sym e),
      atom_is x h.low h.high r.clause
          (ap (λ (s : Rule). s.clause) (sym e)) h.covers,
    ))
    (Memᴰ.append_cases g h.rule)
