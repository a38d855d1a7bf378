-- Laws of sets: what a set with one more member has, and how large its number is.
use mathlib.Core.Path.{◌≡◌, sym, ap, ◌∙◌}
use mathlib.Core.Logic.{◌⊎◌, inl, inr}
use Prim.Native.Nat.{ℕ, suc, ◌+◌, ◌-◌, ◌*◌, ◌/◌, ◌%◌, ◌^◌, ◌≤◌, ◌<◌, max}
use native.Mathlib.Nat.{zero-div, div-eq_of_lt, mul-mod_left, div_self, one-mul, mod-eq_of_lt}
use native.Mathlib.Omega.{arith}
use native.Mathlib.Decide.{ℕ_discrete, dec_lt}
use lib.Bits.{bit_or, or_shr, or_add_and, and_le_r, or_lt}
use lib.Pow.{pow_pos, pow-lt, pow-add, shl-shr}
use Rattle.sets.proofs.Bits.{or_odd}
use Rattle.sets.specs.Sets.{In}
use Rattle.sets.specs.Insertion.{insert}

pub in_dec : (s a : ℕ) → Dec (In s a)
in_dec s a = go (ℕ_discrete (s / 2 ^ a % 2) 1)
  where
    go : Dec (s / 2 ^ a % 2 ≡ 1) → Dec (In s a)
    go (yes e) = yes (record { digit = e })
    go (no n) = no (λ h. n h.digit)

pub in_zero : (a : ℕ) → In 0 a → ⊥
in_zero a h = let z : ◌≡◌ {A = ℕ} 0 1 = sym (ap (λ (x : ℕ). x % 2) (zero-div (2 ^ a))) ∙ h.digit in
    omega arith

below_two : (n : ℕ) → n % 2 < 2
below_two n = omega arith

-- the digit b of the set of a alone
one_same : (a : ℕ) → 2 ^ a / 2 ^ a % 2 ≡ 1
one_same a = ap (λ (x : ℕ). x % 2) (div_self (pow_pos a))

one_above : (a b : ℕ) → a < b → 2 ^ a / 2 ^ b % 2 ≡ 0
one_above a b h = ap (λ (x : ℕ). x % 2) (div-eq_of_lt (pow-lt h))

one_below : (a b : ℕ) → b < a → 2 ^ a / 2 ^ b % 2 ≡ 0
one_below a b h =
    let e : a ≡ (a - suc b) + 1 + b = omega arith in
    ap (λ (x : ℕ). 2 ^ x / 2 ^ b % 2) e ∙ ap (λ (x : ℕ). x / 2 ^ b % 2)
    (pow-add 2 ((a - suc b) + 1) b)
    ∙ ap (λ (x : ℕ). x % 2) (shl-shr (2 ^ ((a - suc b) + 1)) b)
    ∙ ap (λ (x : ℕ). x % 2) (pow-add 2 (a - suc b) 1) ∙ mul-mod_left (2 ^ (a - suc b)) 2

digit : (s a b : ℕ) → insert s a / 2 ^ b % 2 ≡ max (s / 2 ^ b % 2) (2 ^ a / 2 ^ b % 2)
unfolding insert
digit s a b = ap (λ (x : ℕ). x % 2) (or_shr s (2 ^ a) b) ∙ or_odd (s / 2 ^ b) (2 ^ a / 2 ^ b)

pub insert_same : (s a : ℕ) → In (insert s a) a
insert_same s a = record { digit = omega (arith, digit s a a, one_same a, below_two (s / 2 ^ a)) }

pub insert_keeps : (s a : ℕ) {b : ℕ} → In s b → In (insert s a) b
insert_keeps s a {b} h =
    record { digit = omega (arith, digit s a b, below_two (2 ^ a / 2 ^ b), h.digit) }

pub insert_only : (s a b : ℕ) → In (insert s a) b → In s b ⊎ (b ≡ a)
insert_only s a b h = go (dec_lt a b) (dec_lt b a)
  where
    go : Dec (a < b) → Dec (b < a) → In s b ⊎ (b ≡ a)
    go (yes l) q = inl (record { digit = omega (arith, digit s a b, one_above a b l, h.digit) })
    go (no l) (yes m) =
        inl (record { digit = omega (arith, digit s a b, one_below a b m, h.digit) })
    go (no l) (no m) = inr (omega arith)

pub insert_ge : (s a : ℕ) → s ≤ insert s a
unfolding insert
insert_ge s a = omega (arith, or_add_and s (2 ^ a), and_le_r s (2 ^ a))

-- a set of numbers below k is below 2^k
pub insert_lt : (k s a : ℕ) → s < 2 ^ k → a < k → insert s a < 2 ^ k
unfolding insert
insert_lt k s a h l = or_lt k s (2 ^ a) h (pow-lt l)

-- what `set | (1 << a)` computes
pub insert_shl : (s a : ℕ) → a < 64 → bit_or s ((1 * 2 ^ a) % 2 ^ 64) ≡ insert s a
unfolding insert
insert_shl s a l =
    ap (bit_or s) (ap (λ (x : ℕ). x % 2 ^ 64) (one-mul (2 ^ a)) ∙ mod-eq_of_lt (pow-lt l))
