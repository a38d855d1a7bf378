-- The loops over columns: a sum so far, a row so far, and how large they are.
use mathlib.Core.Path.{◌≡◌, refl, ◌∙◌, ap, ap₂}
use mathlib.Core.Logic.{◌⊎◌, inl, inr, ⊎_elim}
use Prim.Native.Nat.{ℕ, zero, suc, ◌+◌, ◌-◌, ◌*◌, ◌≤◌, ◌<◌}
use native.Mathlib.Omega.{arith}
use native.Mathlib.Decide.{dec_lt, ℕ_discrete}
use native.Mathlib.Numerals.{add-one}
use native.Mathlib.Nat.{mul-le-mul, mul-le-mul_right, sub-zero}
use lib.ListN.{length, get_or, set, replicate, get_or-replicate, get_or-eq_default}
use lib.Seq.{get_or-set_same, get_or-set_other}
use Rattle.tried_count.specs.declared.Row.{Row}
use Rattle.tried_count.specs.Ways.{sum, ways, lesser, onward}
use Rattle.tried_count.specs.Rows.{at, Low, OneCellMore, RowOf, Fair}
use Rattle.tried_count.proofs.Sums.{ways_same, sum_le, ways_le}
use Rattle.tried_count.proofs.Bounds.{onward_small}

-- ---- a sum so far: s is that of the columns after a, up to k
pub record Summing (f : ℕ → ℕ) (a b k s : ℕ) : Type 0 where
  pub low : a ≤ k
  pub high : (k ≤ b) ⊎ (k ≡ a)
  pub is : s ≡ sum f a (k - a)

pub summing_none : (f : ℕ → ℕ) (a b : ℕ) → Summing f a b a 0
unfolding sum
summing_none f a b = let e : a - a ≡ 0 = omega arith in
    record { low = omega arith; high = inr refl; is = rw e }

pub summing_more : (f : ℕ → ℕ) (a b k s : ℕ) → k < b → Summing f a b k s
    → Summing f a b (k + 1) (s + f (k + 1))
unfolding sum
summing_more f a b k s h w =
    let e : k + 1 - a ≡ suc (k - a) = omega (arith, w.low) in
    let i : a + suc (k - a) ≡ k + 1 = omega (arith, w.low) in
    record {
      low = omega (arith, w.low);
      high = inl (omega arith);
      is =
          rw (e, i) (ap (λ (x : ℕ). x + f (k + 1)) w.is);
    }

pub summing_end : (f : ℕ → ℕ) (a b k s : ℕ) → b ≤ k → Summing f a b k s → s ≡ sum f a (b - a)
summing_end f a b k s h w =
    let e : k - a ≡ b - a =
    ⊎_elim (λ l. omega (arith, l, h)) (λ l. omega (arith, l, h)) w.high in
    w.is ∙ ap (sum f a) e

pub sum_small : (row : Row) (a j : ℕ) → Low row → j ≤ 7 → sum (at row) a j ≤ 30064771072
sum_small row a j l h =
    let x = sum_le (at row) 4294967296 l.each a j in
    let y : j * 4294967296 ≤ 7 * 4294967296 = mul-le-mul_right 4294967296 h in
    omega (arith, x, y)

pub summing_small : (row : Row) (a b k s : ℕ) → Low row → k < b → b ≤ 7 → Summing (at row) a b k s
    → s ≤ 30064771072
summing_small row a b k s l h u w = omega (arith, w.is, sum_small row a (k - a) l (omega arith))

-- ---- ways to put a cell

pub ways_small : (row : Row) (n m p : ℕ) → Low row → n ≤ 7 → m ≤ 2
    → ways (at row) n m p ≤ 90194313216
ways_small row n m p l h u =
    let x = ways_le (at row) 4294967296 l.each n m p in
    let y : n * 4294967296 ≤ 7 * 4294967296 = mul-le-mul_right 4294967296 h in
    let z : m * (n * 4294967296) ≤ 2 * (7 * 4294967296) = mul-le-mul u y in
    omega (arith, x, y, z)

pub lesser_small : (row : Row) (n p s k : ℕ) → Low row → n ≤ 7 → s ≤ 2 → k ≤ n
    → lesser (at row) n p s k ≤ 120259084288
lesser_small row n p zero k l h u v = omega (arith, sum_small row p (k - 1 - p) l (omega arith))
lesser_small row n p (suc s) k l h u v =
    omega (arith, ways_small row n s p l h (omega arith), sum_small row 0 (k - 1) l (omega arith))

pub product_small : (t : ℕ) (row : Row) (n m p : ℕ) → Low row → n ≤ 7 → m ≤ 2 → t ≤ 64
    → t * ways (at row) n m p ≤ 5772436045824
product_small t row n m p l h u v =
    let x : t * ways (at row) n m p ≤ 64 * 90194313216 =
    mul-le-mul v (ways_small row n m p l h u) in
    omega (arith, x)

pub ways_is : (f : ℕ → ℕ) (n m p x y : ℕ) → x ≡ sum f p (n - p) → y ≡ sum f 0 (n - 0)
    → x + m * y ≡ ways f n m p
unfolding ways
ways_is f n m p x y e d = ap₂ (λ (a b : ℕ). a + m * b) e (d ∙ ap (sum f 0) (sub-zero n))

pub lesser_here : (f : ℕ → ℕ) (n p s k x : ℕ) → s ≡ 0 → x ≡ sum f p (k - 1 - p)
    → x ≡ lesser f n p s k
lesser_here f n p s k x e d = rw e d

pub lesser_later : (f : ℕ → ℕ) (n p s k x y : ℕ) → (s ≡ 0 → ⊥) → x ≡ ways f n (s - 1) p
    → y ≡ sum f 0 (k - 1 - 0) → x + y ≡ lesser f n p s k
lesser_later f n p zero k x y h e d = absurd (h refl)
lesser_later f n p (suc s) k x y h e d =
    let i : suc s - 1 ≡ s = omega arith in
    let j : k - 1 - 0 ≡ k - 1 = omega arith in
    ap₂ ◌+◌ (e ∙ ap (λ (z : ℕ). ways f n z p) i) (d ∙ ap (sum f 0) j)

pub double_small : (m x : ℕ) → m ≤ 2 → x ≤ 30064771072 → m * x ≤ 60129542144
double_small m x h l = mul-le-mul {n₁ = m} {m₁ = x} {n₂ = 2} {m₂ = 30064771072} h l

pub share_small : (b x : ℕ) → b ≤ 64 → x ≤ 90194313216 → b * x ≤ 5772436045824
share_small b x h l = mul-le-mul {n₁ = b} {m₁ = x} {n₂ = 64} {m₂ = 90194313216} h l

-- ---- a row so far: the columns below p have the ways with one cell more, the others 0
pub record Growing (t n : ℕ) (row : Row) (p : ℕ) (next : Row) : Type 0 where
  pub size : length next.ways ≡ 8
  pub each : (k : ℕ) → k < p → at next k ≡ t * ways (at row) n 2 k
  pub past : (k : ℕ) → p ≤ k → at next k ≡ 0

pub growing_none : (t n : ℕ) (row : Row) → Growing t n row 0 (record { ways = replicate 8 0 })
growing_none t n row =
    record { size = refl; each = λ k l. absurd (omega arith); past = λ k l. none k }
  where
    none : (k : ℕ) → ◌≡◌ {A = ℕ} (get_or (replicate 8 0) k 0) 0
    none k = elim (dec_lt k 8) [
      | yes l ↦ get_or-replicate 8 k 0 0 l
      | no l ↦ get_or-eq_default
          (replicate 8 0) 0 {n = k} (omega arith)
    ]

pub growing_more : (t n : ℕ) (row : Row) (p : ℕ) (next : Row) (x : ℕ) → p < 8
    → x ≡ t * ways (at row) n 2 p → Growing t n row p next
    → Growing t n row (p + 1) (record { ways = set next.ways p x })
growing_more t n row p next x h e w = record { size = length_kept; each = each; past = past }
  where
    length_kept : length (set next.ways p x) ≡ 8
    length_kept = simp lib.ListN.length-set w.size

    each : (k : ℕ) → k < p + 1 → get_or (set next.ways p x) k 0 ≡ t * ways (at row) n 2 k
    each k l = elim (ℕ_discrete k p) [
      | yes q ↦ rw q (get_or-set_same next.ways p x 0 (omega (arith, w.size)) ∙ e)
      | no q ↦ get_or-set_other next.ways p k x 0 q ∙ w.each k (omega arith)
    ]

    past : (k : ℕ) → p + 1 ≤ k → get_or (set next.ways p x) k 0 ≡ 0
    past k l = get_or-set_other next.ways p k x 0 (λ z. omega (arith, z)) ∙ w.past k (omega arith)

pub growing_end : (t n : ℕ) (row : Row) (p : ℕ) (next : Row) → p ≡ n + 1 → Growing t n row p next
    → OneCellMore t n row next
growing_end t n row p next e w =
    record { each = λ k l. w.each k (omega arith); past = λ k l. w.past k (omega arith) }

-- ---- rows cell by cell

pub row_none : (t n : ℕ) → n ≤ 7 → RowOf t n 0 (record { ways = replicate 8 1 })
unfolding onward
row_none t n h = record {
  each = λ k l. get_or-replicate {A = ℕ} 8 k 1 0 (omega arith);
  low = record
      { each = λ k. go k (dec_lt k 8) };
}
  where
    go : (k : ℕ) → Dec (k < 8) → get_or (replicate 8 1) k 0 ≤ 4294967296
    go k (yes l) = omega (arith, get_or-replicate {A = ℕ} 8 k 1 0 l)
    go k (no l) =
        omega (arith, get_or-eq_default {A = ℕ} (replicate 8 1) 0 {n = k} (omega arith))

pub row_more : (t n i : ℕ) (row next : Row) → Fair t n → i + 1 < n → RowOf t n i row
    → OneCellMore t n row next → RowOf t n (i + 1) next
unfolding onward
row_more t n i row next f h w g =
    record { each = each; low = record { each = λ k. low k (dec_lt n k) } }
  where
    each : (k : ℕ) → k ≤ n → at next k ≡ onward t n (i + 1) k
    each k l = rw (add-one i) (g.each k l ∙ ap (λ (x : ℕ). t * x)
        (ways_same (at row) (onward t n i) n 2 k w.each))

    low : (k : ℕ) → Dec (n < k) → at next k ≤ 4294967296
    low k (yes l) = omega (arith, g.past k l)
    low k (no l) = omega (arith, each k (omega arith), onward_small t n (i + 1) k f h)
