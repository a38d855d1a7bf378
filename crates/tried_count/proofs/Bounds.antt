-- Refusal 24 keeps the numbers small.
use mathlib.Core.Path.{◌≡◌, refl, sym, ◌∙◌, ap}
use Prim.Native.Nat.{ℕ, zero, suc, ◌+◌, ◌*◌, ◌^◌, ◌≤◌, ◌<◌}
use native.Mathlib.Omega.{arith}
use native.Mathlib.Nat.{mul-le-mul, mul-le-mul_left, mul-le-mul_right, mul-pos, pow-suc, pow-zero}
use native.Mathlib.Nat.{mul-zero, mul-one, one-mul, mul_assoc}
use native.Mathlib.Numerals.{add-one}
use native.Mathlib.Decide.{dec_lt}
use Rattle.grammar.specs.Sweeps.{arrangements}
use Rattle.candidates.proofs.Limit.{partly, partly_one, partly_more, partly_above, limit_end}
use Rattle.tried_count.specs.Ways.{onward}
use Rattle.tried_count.specs.Rows.{Fair}
use Rattle.tried_count.proofs.Sums.{onward_le}

-- the arrangements of i tokens: t n ways for the first, 3 t n for each other
partly_power : (t n r : ℕ) → partly t n (suc r) ≡ t * n * (3 * t * n) ^ r
partly_power t n zero =
    sym (partly_one t n) ∙ sym (ap (λ (x : ℕ). t * n * x) (pow-zero (3 * t * n)) ∙ mul-one (t * n))
partly_power t n (suc r) =
    ap (partly t n) (sym (add-one (suc r)))
    ∙ sym (partly_more t n (suc r) (partly t n (suc r)) (omega arith) refl)
    ∙ ap (λ (x : ℕ). x * (3 * t * n)) (partly_power t n r)
    ∙ mul_assoc (t * n) ((3 * t * n) ^ r) (3 * t * n)
    ∙ ap (λ (x : ℕ). t * n * x) (sym (pow-suc (3 * t * n) r))

whole_partly : (t n : ℕ) → partly t n n ≡ arrangements t n
whole_partly t n = limit_end t n n (partly t n n) refl refl

-- fewer tokens, no more arrangements
partly_below : (t n i : ℕ) (b : ℕ) → 1 ≤ i → i ≤ n → arrangements t n ≤ b → partly t n i ≤ b
partly_below t n i b l u h = go (dec_lt b (partly t n i))
  where
    go : Dec (b < partly t n i) → partly t n i ≤ b
    go (yes x) = absurd (omega (arith, partly_above t n i n b l u x, whole_partly t n, h))
    go (no x) = omega arith

power_small : (t n r b : ℕ) → r < n → 1 ≤ b → arrangements t n ≤ b → (3 * t * n) ^ r ≤ b
power_small zero n zero b h l u = rw (pow-zero (3 * 0 * n)) l
power_small zero n (suc r) b h l u = rw (pow-suc (3 * 0 * n) r)
    (let e : 3 * 0 * n ≡ 0 = omega arith in rw (e, mul-zero (0 ^ r)) (omega arith))
power_small (suc t) n r b h l u =
    let p : partly (suc t) n (suc r) ≤ b = partly_below (suc t) n (suc r) b (omega arith) h u in
    let q : 1 ≤ suc t * n = mul-pos {m = suc t} {n = n} (omega arith) (omega arith) in
    let m : 1 * (3 * suc t * n) ^ r ≤ suc t * n * (3 * suc t * n) ^ r =
    mul-le-mul_right ((3 * suc t * n) ^ r) q in
    reach ((3 * suc t * n) ^ r) (suc t * n * (3 * suc t * n) ^ r) (partly (suc t) n (suc r))
    (rw (one-mul ((3 * suc t * n) ^ r)) at m) (partly_power (suc t) n r) p
  where
    reach : (x y z : ℕ) → x ≤ y → z ≡ y → z ≤ b → x ≤ b
    reach x y z i e k = omega arith

pub onward_small : (t n r p : ℕ) → Fair t n → r < n → onward t n r p ≤ 4294967296
onward_small t n r p f h = reach (onward t n r p) ((3 * t * n) ^ r) (onward_le t n r p)
    (power_small t n r 4294967296 h (omega arith) f.limit)
  where
    reach : (x y : ℕ) → x ≤ y → y ≤ 4294967296 → x ≤ 4294967296
    reach x y a b = omega arith

-- with fewer columns there are no more
partly_columns : (t n k r : ℕ) → n ≤ k → partly t n (suc r) ≤ partly t k (suc r)
partly_columns t n k zero h = rw (← partly_one t n, ← partly_one t k) (mul-le-mul_left t h)
partly_columns t n k (suc r) h =
    let x : partly t n (suc r) * (3 * t * n) ≡ partly t n (suc r + 1) =
    partly_more t n (suc r) (partly t n (suc r)) (omega arith) refl in
    let y : partly t k (suc r) * (3 * t * k) ≡ partly t k (suc r + 1) =
    partly_more t k (suc r) (partly t k (suc r)) (omega arith) refl in
    let z : partly t n (suc r) * (3 * t * n) ≤ partly t k (suc r) * (3 * t * k) =
    mul-le-mul (partly_columns t n k r h) (mul-le-mul_left (3 * t) h) in
    rw (← add-one (suc r), ← x, ← y) z

-- a shorter length is fair too
pub fair_shorter : {t k : ℕ} (n : ℕ) → 1 ≤ n → n ≤ k → Fair t k → Fair t n
fair_shorter {t} {k} zero l u f = absurd (omega arith)
fair_shorter {t} {k} (suc r) l u f = record {
  low = l;
  high = omega (arith, f.high);
  few = f.few;
  limit = reach (arrangements t (suc r)) (partly t (suc r) (suc r)) (partly t k (suc r))
      (sym (whole_partly t (suc r))) (partly_columns t (suc r) k r u)
      (partly_below t k (suc r) 4294967296 l u f.limit);
}
  where
    reach : (x y z : ℕ) → x ≡ y → y ≤ z → z ≤ 4294967296 → x ≤ 4294967296
    reach x y z a b c = omega arith
