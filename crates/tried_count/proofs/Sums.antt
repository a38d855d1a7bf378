-- Sums over columns: by their members, and how large they are.
use mathlib.Core.Path.{◌≡◌, refl, ap, ap₂}
use Prim.Native.Nat.{ℕ, zero, suc, ◌+◌, ◌-◌, ◌*◌, ◌^◌, ◌≤◌, ◌<◌}
use native.Mathlib.Omega.{arith}
use native.Mathlib.Nat.{mul-le-mul_left, mul-le-mul_right, pow-suc, pow-zero, suc-mul}
use Rattle.tried_count.specs.Ways.{sum, ways, lesser, onward}

-- equal members, equal sums
pub sum_same : (f g : ℕ → ℕ) (a j : ℕ) → ((k : ℕ) → a < k → k ≤ a + j → f k ≡ g k)
    → sum f a j ≡ sum g a j
unfolding sum
sum_same f g a zero h = refl
sum_same f g a (suc j) h = ap₂ ◌+◌ (sum_same f g a j (λ k l u. h k l (omega arith)))
    (h (a + suc j) (omega arith) (omega arith))

pub ways_same : (f g : ℕ → ℕ) (n m p : ℕ) → ((k : ℕ) → k ≤ n → f k ≡ g k)
    → ways f n m p ≡ ways g n m p
unfolding ways
ways_same f g n m p h = ap₂ ◌+◌ (sum_same f g p (n - p) (λ k l u. h k (omega arith)))
    (ap (λ (x : ℕ). m * x) (sum_same f g 0 n (λ k l u. h k (omega arith))))

pub lesser_same : (f g : ℕ → ℕ) (n p s k : ℕ) → k ≤ n → ((i : ℕ) → i ≤ n → f i ≡ g i)
    → lesser f n p s k ≡ lesser g n p s k
lesser_same f g n p zero k u h = sum_same f g p (k - 1 - p) (λ i l v. h i (omega arith))
lesser_same f g n p (suc s) k u h =
    ap₂ ◌+◌ (ways_same f g n s p h) (sum_same f g 0 (k - 1) (λ i l v. h i (omega arith)))

-- members of at most b
pub sum_le : (f : ℕ → ℕ) (b : ℕ) → ((k : ℕ) → f k ≤ b) → (a j : ℕ) → sum f a j ≤ j * b
unfolding sum
sum_le f b h a zero = omega arith
sum_le f b h a (suc j) = rw (suc-mul j b) (omega (arith, sum_le f b h a j, h (a + suc j)))

pub ways_le : (f : ℕ → ℕ) (b : ℕ) → ((k : ℕ) → f k ≤ b) → (n m p : ℕ)
    → ways f n m p ≤ n * b + m * (n * b)
unfolding ways
ways_le f b h n m p =
    let x = sum_le f b h p (n - p) in
    let y : (n - p) * b ≤ n * b = mul-le-mul_right b (omega arith) in
    let z : m * sum f 0 n ≤ m * (n * b) = mul-le-mul_left m (sum_le f b h 0 n) in
    omega (arith, x, y, z)

product : (t n b : ℕ) → t * (n * b + 2 * (n * b)) ≡ b * (3 * t * n)
product t n b = omega arith

-- at most (3 t n) ways for each cell
pub onward_le : (t n r p : ℕ) → onward t n r p ≤ (3 * t * n) ^ r
unfolding onward
onward_le t n zero p = rw (pow-zero (3 * t * n)) (omega arith)
onward_le t n (suc r) p =
    let w = ways_le (onward t n r) ((3 * t * n) ^ r) (λ k. onward_le t n r k) n 2 p in
    let m : t * ways (onward t n r) n 2 p ≤ t * (n * (3 * t * n) ^ r + 2 * (n * (3 * t * n) ^ r)) =
    mul-le-mul_left t w in
    rw (pow-suc (3 * t * n) r, ← product t n ((3 * t * n) ^ r)) m
