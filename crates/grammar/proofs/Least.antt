-- The least number, and the least pair of numbers, within bounds that have a property.
use mathlib.Core.Path.{◌≡◌}
use mathlib.Core.Logic.{◌⊎◌, inl, inr, ⊎_elim}
use Prim.Native.Nat.{ℕ, zero, suc, ◌≤◌, ◌<◌}
use native.Mathlib.Omega.{arith}
use native.Mathlib.Decide.{ℕ_discrete}
use Rattle.grammar.specs.Choices.{ChoiceBefore}

pub record Least (Q : ℕ → Type 0) : Type 0 where
  pub at : ℕ
  pub holds : Q at
  pub before : (j : ℕ) → j < at → Q j → ⊥

pub seek : (Q : ℕ → Type 0) → ((i : ℕ) → Dec (Q i)) → (n : ℕ)
    → Least Q ⊎ ((j : ℕ) → j < n → Q j → ⊥)
seek Q d zero = inr (λ j h q. omega arith)
seek Q d (suc n) = go (seek Q d n) (d n)
  where
    go : Least Q ⊎ ((j : ℕ) → j < n → Q j → ⊥) → Dec (Q n)
        → Least Q ⊎ ((j : ℕ) → j < suc n → Q j → ⊥)
    go (inl l) e = inl l
    go (inr f) (yes q) = inl (record { at = n; holds = q; before = f })
    go (inr f) (no k) = inr (λ j h q. ⊎_elim (λ x. k (rw x at q)) (λ x. f j x q) (le_cases j n h))
      where
        le_cases : (j n : ℕ) → j < suc n → (j ≡ n) ⊎ (j < n)
        le_cases j n h = pick (ℕ_discrete j n)
          where
            pick : Dec (j ≡ n) → (j ≡ n) ⊎ (j < n)
            pick (yes e) = inl e
            pick (no f) = inr (omega arith)

pub record Least₂ (P : ℕ → ℕ → Type 0) : Type 0 where
  pub place : ℕ
  pub split : ℕ
  pub holds : P place split
  pub before : (q l : ℕ) → P q l → ChoiceBefore q l place split → ⊥

module _ (P : ℕ → ℕ → Type 0) (d : (p k : ℕ) → Dec (P p k)) (n m : ℕ)
    (inside : (p k : ℕ) → P p k → (p < n) × (k ≤ m)) where
  row : (p : ℕ) → Dec (Least (P p))
  row p = go (seek (P p) (d p) (suc m))
    where
      go : Least (P p) ⊎ ((j : ℕ) → j < suc m → P p j → ⊥) → Dec (Least (P p))
      go (inl l) = yes l
      go (inr f) = no (λ l. f l.at (omega (arith, inside p l.at l.holds)) l.holds)

  in_row : {p k : ℕ} → P p k → Least (P p)
  in_row {p} {k} h = go (row p) (seek (P p) (d p) (suc m))
    where
      go : Dec (Least (P p)) → Least (P p) ⊎ ((j : ℕ) → j < suc m → P p j → ⊥) → Least (P p)
      go (yes l) x = l
      go (no f) (inl l) = l
      go (no f) (inr x) = absurd (x k (omega (arith, inside p k h)) h)

  pub seek₂ : Least₂ P ⊎ ((p k : ℕ) → P p k → ⊥)
  seek₂ = go (seek (λ p. Least (P p)) row n)
    where
      go : Least (λ p. Least (P p)) ⊎ ((j : ℕ) → j < n → Least (P j) → ⊥)
          → Least₂ P ⊎ ((p k : ℕ) → P p k → ⊥)
      go (inl l) =
          inl (record {
            place = l.at;
            split = l.holds.at;
            holds = l.holds.holds;
            before = λ q k h b. ⊎_elim (λ x. l.before q x (in_row h))
                (λ x. l.holds.before k x.1 (rw x.0 at h)) b;
          })
      go (inr f) = inr (λ p k h. f p (inside p k h).0 (in_row h))
