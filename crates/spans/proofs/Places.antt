-- Where the pairs of a span sheet stand: the closed forms that the code computes, and that two
-- words have two pairs.
use mathlib.Core.Path.{◌≡◌, refl, sym, ap, ◌∙◌}
use mathlib.Core.Logic.{◌⊎◌, inl, inr}
use Prim.Native.Nat.{ℕ, zero, suc, ◌+◌, ◌-◌, ◌*◌, ◌/◌, ◌≤◌, ◌<◌}
use native.Mathlib.Nat.{not-suc-le-zero, suc-mul, mul-suc, mul-le-mul_right, zero-mul}
use native.Mathlib.Decide.{dec_lt, le_ind}
use native.Mathlib.Omega.{arith}
use Rattle.grammar.specs.SpanSheet.{pairs, spans, pair_at}

spans_twice : (n l : ℕ) → l ≤ n → spans n l * 2 ≡ l * (2 * n + 1 - l)
unfolding spans
spans_twice n zero h = sym (zero-mul (2 * n + 1 - 0))
spans_twice n (suc l) h =
    let x : ℕ = 2 * n - l in
    let e : 2 * n + 1 - l ≡ suc x = omega arith in
    let f : 2 * n + 1 - suc l ≡ x = omega arith in
    let ih : spans n l * 2 ≡ l * x + l =
    spans_twice n l (omega arith) ∙ ap (λ (y : ℕ). l * y) e ∙ mul-suc l x in
    let goal : (spans n l + (n - l)) * 2 ≡ l * x + x = omega arith in
    goal ∙ sym (suc-mul l x) ∙ ap (λ (y : ℕ). suc l * y) (sym f)

-- the closed form that the code computes
pub spans_closed : (n l : ℕ) → l ≤ n → l * (2 * n + 1 - l) / 2 ≡ spans n l
spans_closed n l h = omega (arith, spans_twice n l h)

pub spans_bound : (n l : ℕ) → n ≤ 64 → l ≤ n → l * (2 * n + 1 - l) ≤ 64 * (2 * n + 1 - l)
spans_bound n l h k = mul-le-mul_right (2 * n + 1 - l) (omega arith)

pub spans_mono : (n l m : ℕ) → l ≤ m → spans n l ≤ spans n m
unfolding spans
spans_mono n l m h =
    le_ind (λ (k : ℕ). spans n l ≤ spans n k) (omega arith) (λ k q ih. omega arith) m h

-- the pairs are the empty word's and those of all spans
pub pairs_spans : (n : ℕ) → pairs n ≡ 1 + spans n n
unfolding pairs
pairs_spans n = ap (λ (x : ℕ). 1 + n * x / 2) (let e : n + 1 ≡ 2 * n + 1 - n = omega arith in e)
    ∙ ap (λ (x : ℕ). 1 + x) (spans_closed n n (omega arith))

pub pairs_closed : (n : ℕ) → 1 + n * (n + 1) / 2 ≡ pairs n
unfolding pairs
pairs_closed n = refl

pub pair_at_empty : (n s : ℕ) → pair_at n s 0 ≡ 0
unfolding pair_at
pair_at_empty n s = refl

pub pair_at_of : (n s len : ℕ) → 0 < len → pair_at n s len ≡ 1 + spans n (len - 1) + s
unfolding pair_at
pair_at_of n s zero h = absurd (not-suc-le-zero h)
pair_at_of n s (suc l) h =
    ap (λ (k : ℕ). 1 + spans n k + s) (let e : l ≡ suc l - 1 = omega arith in e)

-- a shorter span stands before a longer one
pub pair_at_shorter : (n s len s' len' : ℕ) → s + len ≤ n → len < len'
    → pair_at n s len < pair_at n s' len'
unfolding pair_at spans
pair_at_shorter n s len s' zero h l = absurd (not-suc-le-zero l)
pair_at_shorter n s zero s' (suc l') h l = omega arith
pair_at_shorter n s (suc k) s' (suc l') h l = omega (arith, spans_mono n (suc k) l' (omega arith))

-- one pair has one word
pub pair_at_same : (n s len s' len' : ℕ) → s + len ≤ n → s' + len' ≤ n
    → pair_at n s len ≡ pair_at n s' len' → (len ≡ len') × ((len ≡ 0) ⊎ (s ≡ s'))
unfolding pair_at
pair_at_same n s len s' len' h h' e = go (dec_lt len len') (dec_lt len' len)
  where
    at : (k k' : ℕ) → k ≡ len → k' ≡ len' → k ≡ k' → (len ≡ 0) ⊎ (s ≡ s')
    at zero zero p q r = inl (sym p)
    at zero (suc k') p q r = absurd (omega arith)
    at (suc k) zero p q r = absurd (omega arith)
    at (suc k) (suc k') p q r =
        inr (omega (
          arith,
          ap (spans n) (let z : k ≡ k' = omega arith in z),
          ap (pair_at n s) p,
          ap
              (pair_at n s') q,
          e,
        ))

    go : Dec (len < len') → Dec (len' < len) → (len ≡ len') × ((len ≡ 0) ⊎ (s ≡ s'))
    go (yes l) q = absurd (omega (arith, pair_at_shorter n s len s' len' h l, e))
    go (no l) (yes m) = absurd (omega (arith, pair_at_shorter n s' len' s len h' m, e))
    go (no l) (no m) = let z : len ≡ len' = omega arith in (z, at len len' refl refl z)

pub pair_at_below : (n s len : ℕ) → s + len ≤ n → pair_at n s len < pairs n
unfolding pair_at spans
pair_at_below n s zero h = omega (arith, pairs_spans n)
pair_at_below n s (suc l) h = omega (arith, pairs_spans n, spans_mono n (suc l) n (omega arith))

pub pairs_few : (n : ℕ) → n ≤ 64 → pairs n ≤ 2081
unfolding pairs
pairs_few n h = omega (arith, mul-le-mul_right (n + 1) h)
