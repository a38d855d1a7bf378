-- The members of a set below a number, counted by the ones of what is left of it.
use mathlib.Core.Path.{◌≡◌, ◌∙◌, ap}
use Prim.Native.Nat.{ℕ, ◌*◌, ◌%◌, ◌^◌, ◌≤◌, ◌<◌}
use native.Mathlib.Omega.{arith}
use native.Mathlib.Nat.{one-mul, mod-lt, mod-eq_of_lt}
use lib.Pow.{pow_pos, pow-lt}
use lib.Count.{ones, ones-le}

one_shl : (x : ℕ) → x < 64 → (1 * 2 ^ x) % 2 ^ 64 ≡ 2 ^ x
one_shl x h = ap (λ (z : ℕ). z % 2 ^ 64) (one-mul (2 ^ x)) ∙ mod-eq_of_lt (pow-lt h)

pub shl_pos : (x : ℕ) → x < 64 → 0 < (1 * 2 ^ x) % 2 ^ 64
shl_pos x h = omega (arith, one_shl x h, pow_pos x)

pub below_small : (s x : ℕ) → ones (s % 2 ^ x) ≤ x
below_small s x = ones-le x (s % 2 ^ x) (mod-lt s (pow_pos x))

pub below_is : (s x : ℕ) → x < 64 → ones (s % ((1 * 2 ^ x) % 2 ^ 64)) ≡ ones (s % 2 ^ x)
below_is s x h = ap (λ (z : ℕ). ones (s % z)) (one_shl x h)
