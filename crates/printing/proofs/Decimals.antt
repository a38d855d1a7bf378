-- Numbers in base ten.
use mathlib.Core.Path.{◌≡◌}
use mathlib.Core.List.{[], ◌∷◌, ◌++◌}
use Prim.Native.Nat.{ℕ, zero, suc, ◌+◌, ◌*◌, ◌/◌, ◌%◌, ◌^◌, ◌≤◌, ◌<◌}
use native.Mathlib.Nat.{pow-suc}
use native.Mathlib.Omega.{arith}
use native.Mathlib.Decide.{dec_lt}
use borrow.Author.Tests.{lt-ltb, le-ltb}
use lib.ListN.{length, length-append}
use Rattle.printing.specs.Printing.{digits, decimal}

-- more steps give the same digits
digits_enough : (s t n : ℕ) → n < s → n < t → digits s n ≡ digits t n
digits_enough zero t n h k = absurd (omega arith)
digits_enough (suc s) zero n h k = absurd (omega arith)
digits_enough (suc s) (suc t) n h k =
    go (dec_lt n 10) (λ l. digits_enough s t (n / 10) (omega arith) (omega arith))
  where
    go : Dec (n < 10) → (10 ≤ n → digits s (n / 10) ≡ digits t (n / 10))
        → digits (suc s) n ≡ digits (suc t) n
    go (yes l) f = simp (lt-ltb n 10 l)
    go (no l) f = let m : 10 ≤ n = omega arith in simp (le-ltb n 10 m, f m)

pub decimal_one : (n : ℕ) → n < 10 → decimal n ≡ (48 + n) ∷ []
unfolding decimal
decimal_one n h = simp (lt-ltb n 10 h)

pub decimal_more : (n : ℕ) → 10 ≤ n → decimal n ≡ decimal (n / 10) ++ ((48 + n % 10) ∷ [])
unfolding decimal
decimal_more n h =
    simp (le-ltb n 10 h, digits_enough n (suc (n / 10)) (n / 10) (omega arith) (omega arith))

-- its length is one more than that of its tenth
pub decimal_longer : (n : ℕ) → 10 ≤ n → length (decimal n) ≡ length (decimal (n / 10)) + 1
decimal_longer n h = rw (decimal_more n h) (length-append (decimal (n / 10)) ((48 + n % 10) ∷ []))

-- a number below 10 ^ k has at most k digits, if k is not 0
pub decimal_length : (k n : ℕ) → 1 ≤ k → n < 10 ^ k → length (decimal n) ≤ k
decimal_length zero n h l = absurd (omega arith)
decimal_length (suc k) n h l = go (dec_lt n 10) (dec_lt 0 k) (λ p q. decimal_length k (n / 10) p q)
  where
    go : Dec (n < 10) → Dec (0 < k) → (1 ≤ k → n / 10 < 10 ^ k → length (decimal (n / 10)) ≤ k)
        → length (decimal n) ≤ suc k
    go (yes s) d f = rw (decimal_one n s) (omega arith)
    go (no s) (no d) f = let e : k ≡ 0 = omega arith in let m : n < 10 ^ suc 0 = rw e at l in
        absurd (omega arith)
    go (no s) (yes d) f =
        let m : n < 10 ^ k * 10 = rw (pow-suc 10 k) at l in
        rw (decimal_more n (omega arith), length-append) (omega (arith, f d (omega arith)))
