-- Saturation: what a list of numbers adds is put to it until it adds nothing more.
use mathlib.Core.Path.{◌≡◌, refl, ap, subst}
use mathlib.Core.Logic.{◌⊎◌, inl, inr, ⊎_elim}
use mathlib.Core.List.Memᴰ
use mathlib.Core.List.{List, [], ◌∷◌, Memᴰ}
use Prim.Native.Nat.{ℕ, zero, suc, ◌≤◌}
use native.Mathlib.Nat.{le_refl}
use native.Mathlib.Omega.{arith}
use lib.ListN.{length}
use Rattle.grammar.specs.Layout.{Every}

-- `Adds S b`: the members S add b. What they add has P if they have it
module _
    (Adds : List ℕ → ℕ → Type 0)
    (adds? : (S : List ℕ) (b : ℕ) → Dec (Adds S b))
    (P : ℕ → Type 0)
    (sound : (S : List ℕ) → Every P S → (b : ℕ) → Adds S b → P b)
  where
    -- members with P that add nothing of W but themselves
    pub record Saturated (W : List ℕ) : Type 0 where
      pub members : List ℕ
      pub all : Every P members
      pub shut : (b : ℕ) → Memᴰ b W → Adds members b → Memᴰ b members

    -- one of U that S adds, and the others
    record Found (U S : List ℕ) : Type 0 where
      pub at : ℕ
      pub adds : Adds S at
      pub rest : List ℕ
      pub shorter : suc (length rest) ≡ length U
      pub parts : (b : ℕ) → Memᴰ b U → (b ≡ at) ⊎ Memᴰ b rest

    find : (U S : List ℕ) → Found U S ⊎ ((b : ℕ) → Memᴰ b U → Adds S b → ⊥)
    find [] S = inr (λ b m a. Memᴰ.not-nil m)
    find (u ∷ U) S = go (adds? S u) (find U S)
      where
        go : Dec (Adds S u) → Found U S ⊎ ((b : ℕ) → Memᴰ b U → Adds S b → ⊥)
            → Found (u ∷ U) S ⊎ ((b : ℕ) → Memᴰ b (u ∷ U) → Adds S b → ⊥)
        go (yes a) r = inl (record {
          at = u;
          adds = a;
          rest = U;
          shorter = refl;
          parts = λ b m.
              Memᴰ.cases_cons m;
        })
        go (no n) (inl f) =
            inl (record {
              at = f.at;
              adds = f.adds;
              rest = u ∷ f.rest;
              shorter = ap suc f.shorter;
              parts = λ b m. ⊎_elim (λ e. inr (Memᴰ.head e))
                  (λ k. ⊎_elim inl (λ r. inr (Memᴰ.tail r)) (f.parts b k))
                  (Memᴰ.cases_cons m);
            })
        go (no n) (inr f) = inr (λ b m a. ⊎_elim (λ e. n (subst (λ (x : ℕ). Adds S x) e a))
            (λ k. f b k a) (Memᴰ.cases_cons m))

    -- nothing is added any more
    rest : (U S W : List ℕ) → Every P S → ((b : ℕ) → Memᴰ b W → Memᴰ b U ⊎ Memᴰ b S)
        → ((b : ℕ) → Memᴰ b U → Adds S b → ⊥) → Saturated W
    rest U S W e c f = record {
      members = S;
      all = e;
      shut = λ b m a. ⊎_elim (λ u. absurd (f b u a))
          (λ s. s) (c b m);
    }

    -- U holds what of W is no member yet
    run : (n : ℕ) (U S W : List ℕ) → length U ≤ n → Every P S
        → ((b : ℕ) → Memᴰ b W → Memᴰ b U ⊎ Memᴰ b S) → Saturated W
    run zero U S W h e c = go (find U S)
      where
        go : Found U S ⊎ ((b : ℕ) → Memᴰ b U → Adds S b → ⊥) → Saturated W
        go (inl x) = absurd (omega (arith, x.shorter))
        go (inr f) = rest U S W e c f
    run (suc n) U S W h e c = go (λ u s l q d. run n u s W l q d) (find U S)
      where
        go : ((u s : List ℕ) → length u ≤ n → Every P s
            → ((b : ℕ) → Memᴰ b W → Memᴰ b u ⊎ Memᴰ b s) → Saturated W)
            → Found U S ⊎ ((b : ℕ) → Memᴰ b U → Adds S b → ⊥)
            → Saturated W
        go again (inr f) = rest U S W e c f
        go again (inl x) =
            again x.rest (x.at ∷ S) (omega (arith, x.shorter)) (sound S e x.at x.adds, e)
            (λ b m. ⊎_elim (λ u. ⊎_elim (λ q. inr (Memᴰ.head q)) inl (x.parts b u))
            (λ s. inr (Memᴰ.tail s)) (c b m))

    pub saturate : (W : List ℕ) → Saturated W
    saturate W = run (length W) W [] W (le_refl (length W)) tt (λ b m. inl m)
