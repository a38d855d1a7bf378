-- Laws of capped counts.
use mathlib.Core.Path.{◌≡◌, refl}
use Prim.Native.Nat.{ℕ, suc, ◌+◌, ◌≤◌, ◌<◌}
use native.Mathlib.Omega.{arith}
use Rattle.row_counts.specs.Capped.{capped}

pub capped_le : (n : ℕ) → capped n ≤ 4294967296
unfolding capped
capped_le n = omega arith

pub capped_small : (n : ℕ) → n < 4294967296 → capped n ≡ n
unfolding capped
capped_small n h = omega arith

pub capped_large : (n : ℕ) → 4294967296 ≤ n → capped n ≡ 4294967296
unfolding capped
capped_large n h = omega arith

-- what is capped may be capped before
pub capped_one : (a n : ℕ) → capped (a + capped n) ≡ capped (a + n)
unfolding capped
capped_one a n = omega arith

pub capped_pos : (n : ℕ) → 0 < n → 0 < capped n
unfolding capped
capped_pos n h = omega arith

pub capped_suc : (n : ℕ) → capped (suc (capped n)) ≡ capped (suc n)
unfolding capped
capped_suc n = omega arith

pub capped_suc_two : (m n : ℕ) → capped (suc (capped m + capped n)) ≡ capped (suc (m + n))
unfolding capped
capped_suc_two m n = omega arith

pub capped_same : (n goal : ℕ) → n ≤ 4294967296 → capped (n + 0) ≡ capped goal → n ≡ capped goal
unfolding capped
capped_same n goal h q = omega arith

-- a walk counts: total rows so far, own of a node with 1 + x, y to come, z due with it
pub sum_on : (total own total' x y z goal : ℕ) → capped (total + z) ≡ capped goal
    → own ≡ capped (1 + x) → total' ≡ capped (total + own) → z ≡ (1 + x) + y
    → capped (total' + y) ≡ capped goal
unfolding capped
sum_on total own total' x y z goal e f h k = omega arith

pub few_on : (total own total' : ℕ) → total' ≡ capped (total + own) → total' ≤ 4294967296
unfolding capped
few_on total own total' h = omega arith

pub one_is : 1 ≡ capped (1 + 0)
unfolding capped
one_is = refl
