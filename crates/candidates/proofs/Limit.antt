-- The number of arrangements, worked out a token at a time, and that it only grows.
use mathlib.Core.Path.{◌≡◌, refl, sym, ◌∙◌, ap}
use mathlib.Core.Bool.{false}
use Prim.Native.Nat.{ℕ, zero, suc, ◌+◌, ◌-◌, ◌*◌, ◌^◌, ◌≤◌, ◌<◌}
use native.Mathlib.Omega.{arith}
use native.Mathlib.Nat.{pow-suc, pow-zero, mul-mul-mul_comm, mul_comm, mul-one, one-mul}
use native.Mathlib.Nat.{mul-le-mul_left, mul-le-mul, mul-pos, mul-zero, zero-mul}
use native.Mathlib.Decide.{le_ind}
use native.Mathlib.Numerals.{add-one}
use Rattle.sets.specs.Says.{Says}
use Rattle.sets.proofs.Says.{fails}
use Rattle.grammar.specs.Sweeps.{arrangements}

-- with t terminals and n columns, of i tokens
unfoldable pub partly : ℕ → ℕ → ℕ → ℕ
partly t n i = t ^ i * 3 ^ (i - 1) * n ^ i

shuffle : (t n A B C : ℕ) → A * B * C * (3 * t * n) ≡ A * t * (B * 3) * (C * n)
shuffle t n A B C = ap (λ (z : ℕ). A * B * C * (z * n)) (mul_comm 3 t)
    ∙ mul-mul-mul_comm (A * B) C (t * 3) n ∙ ap (λ (z : ℕ). z * (C * n)) (mul-mul-mul_comm A B t 3)

pub partly_one : (t n : ℕ) → t * n ≡ partly t n 1
unfolding partly
partly_one t n = rw (pow-suc t 0, pow-suc n 0, pow-zero t, pow-zero n, one-mul t, one-mul n)
    (sym (ap (λ (z : ℕ). z * n) (mul-one t)))

pub partly_more : (t n i m : ℕ) → 1 ≤ i → m ≡ partly t n i → m * (3 * t * n) ≡ partly t n (i + 1)
unfolding partly
partly_more t n zero m h e = absurd (omega arith)
partly_more t n (suc j) m h e =
    let a : suc j - 1 ≡ j = omega arith in
    let b : suc (suc j) - 1 ≡ suc j = omega arith in
    rw (e, add-one (suc j), a, b, pow-suc t (suc j), pow-suc 3 j, pow-suc n (suc j))
    (shuffle t n (t ^ suc j) (3 ^ j) (n ^ suc j))

-- a product above a bound stays above it
grows : (t n m b : ℕ) → 1 ≤ m → b < partly t n m → b < partly t n (suc m)
unfolding partly
grows zero n zero b h u = absurd (omega arith)
grows zero n (suc j) b h u = absurd
    (let e : partly 0 n (suc j) ≡ 0 = rw
    (pow-suc 0 j, mul-zero (0 ^ j), zero-mul (3 ^ (suc j - 1)), zero-mul (n ^ suc j)) in
    omega arith)
grows (suc t) zero zero b h u = absurd (omega arith)
grows (suc t) zero (suc j) b h u = absurd
    (let e : partly (suc t) 0 (suc j) ≡ 0 = rw
    (pow-suc 0 j, mul-zero (0 ^ j), mul-zero (suc t ^ suc j * 3 ^ (suc j - 1))) in omega arith)
grows (suc t) (suc n) m b h u =
    let e : partly (suc t) (suc n) m * (3 * suc t * suc n) ≡ partly (suc t) (suc n) (m + 1) =
    partly_more (suc t) (suc n) m (partly (suc t) (suc n) m) h refl in
    let p : 1 ≤ 3 * suc t * suc n =
    mul-pos (mul-pos {m = 3} {n = suc t} (omega arith) (omega arith)) (omega arith) in
    let q : partly (suc t) (suc n) m * 1 ≤ partly (suc t) (suc n) m * (3 * suc t * suc n) =
    mul-le-mul_left (partly (suc t) (suc n) m) p in
    let r : partly (suc t) (suc n) (m + 1) ≡ partly (suc t) (suc n) (suc m) =
    ap (partly (suc t) (suc n)) (add-one m) in
    reach (partly (suc t) (suc n) m) (partly (suc t) (suc n) m * (3 * suc t * suc n))
    (partly (suc t) (suc n) (m + 1)) (partly (suc t) (suc n) (suc m)) u
    (rw (mul-one (partly (suc t) (suc n) m)) at q) e r
  where
    reach : (x y z w : ℕ) → b < x → x ≤ y → y ≡ z → z ≡ w → b < w
    reach x y z w a c d e = omega arith

pub partly_above : (t n i k b : ℕ) → 1 ≤ i → i ≤ k → b < partly t n i → b < partly t n k
partly_above t n i k b h l u =
    le_ind (λ (m : ℕ). b < partly t n m) u (λ m g v. grows t n m b (omega arith) v) k l

whole : (t k : ℕ) → partly t k k ≡ arrangements t k
unfolding partly arrangements
whole t k = refl

pub limit_over : (t k i m b : ℕ) → 1 ≤ i → i ≤ k → m ≡ partly t k i → b < m
    → Says false (arrangements t k ≤ b)
limit_over t k i m b h l e u = fails
    (λ v. let x : b < partly t k k = partly_above t k i k b h l (rw (← e) u) in
    omega (arith, whole t k))

pub limit_end : (t k i m : ℕ) → i ≡ k → m ≡ partly t k i → m ≡ arrangements t k
limit_end t k i m h e = e ∙ ap (partly t k) h ∙ whole t k

-- ---- no product of the loop wraps

pub factor_small : (t k : ℕ) → t ≤ 64 → k ≤ 7 → 3 * t * k ≤ 1344
factor_small t k h l = mul-le-mul {n₁ = 3 * t} {m₁ = k} {n₂ = 192} {m₂ = 7} (omega arith) l

pub start_small : (t k : ℕ) → t ≤ 64 → k ≤ 7 → t * k ≤ 448
start_small t k h l = mul-le-mul {n₁ = t} {m₁ = k} {n₂ = 64} {m₂ = 7} h l

pub product_small : (m f : ℕ) → m ≤ 4294967296 → f ≤ 1344 → m * f ≤ 5772436045824
product_small m f h l = mul-le-mul {n₁ = m} {m₁ = f} {n₂ = 4294967296} {m₂ = 1344} h l
