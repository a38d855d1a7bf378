-- Small facts that many proofs use.
use mathlib.Core.Path.{◌≡◌, refl}
use mathlib.Core.Bool.{Bool, true, false, ◌&&◌}
use mathlib.Core.Logic.{◌⊎◌, inl, inr}
use Prim.Native.Nat.{ℕ, ◌+◌, ◌<◌, ◌≤◌}
use native.Mathlib.Omega.{arith}
use native.Mathlib.Decide.{dec_lt}

-- what congruence makes of two constructors that were said to be one
pub clash : ◌≡◌ {A = ℕ} 0 1 → ⊥
clash e = omega arith

pub both : (a b : Bool) → (a && b) ≡ true → (a ≡ true) × (b ≡ true)
both true b e = (refl, e)
both false b e = absurd (clash cc)

pub true_or_false : (b : Bool) → (b ≡ true) ⊎ (b ≡ false)
true_or_false true = inl refl
true_or_false false = inr refl

pub lt_or_eq : (q k : ℕ) → q < k + 1 → (q < k) ⊎ (q ≡ k)
lt_or_eq q k h = go (dec_lt q k)
  where
    go : Dec (q < k) → (q < k) ⊎ (q ≡ k)
    go (yes x) = inl x
    go (no x) = inr (omega arith)

pub never : {P : Type 0} → false ≡ true → P
never e = absurd (clash cc)

pub not_le : (a b : ℕ) → (a ≤ b → ⊥) → b < a
not_le a b n = omega arith

pub not_zero : (n : ℕ) → (n ≡ 0 → ⊥) → 0 < n
not_zero n f = omega arith
