-- What the functions work out, step by step: a cell's number, the number of the first
-- cells, and how many share them.
use mathlib.Core.Path.{◌≡◌, refl, sym, ◌∙◌, ap}
use Prim.Native.Nat.{ℕ, zero, suc, ◌+◌, ◌-◌, ◌*◌, ◌^◌, ◌≤◌, ◌<◌}
use native.Mathlib.Omega.{arith}
use native.Mathlib.Nat.{zero-mul, mul-zero, pow-suc, mul-le-mul}
use native.Mathlib.Numerals.{add-one}
use lib.ListN.{get_or, take}
use lib.Count.{ones}
use Rattle.grammar.specs.declared.Cell.{Cell}
use Rattle.grammar.specs.Candidates.{Ranged}
use Rattle.grammar.specs.Candidates as Of
use Rattle.candidates.specs.declared.Candidate.{Candidate}
use Rattle.candidates.specs.Terminals.{Among}
use Rattle.candidates.specs.Arrays.{cell_at, cells}
use Rattle.candidates.specs.Windows.{largest_step_of}
use Rattle.candidates.proofs.Windows.{cells_size, fits_here}
use Rattle.arrangement_numbers.specs.Numbers.{digit, radix, capacity}
use Rattle.arrangement_numbers.specs.Blocks.{place_in, number_in, room, Few}
use Rattle.grammar.specs.Sweeps.{arrangements}
use Rattle.arrangement_numbers.proofs.NumberLaws.{capacity_all}
use Rattle.arrangement_numbers.proofs.BlockLaws.{front_step, step_largest, front_small}
use Rattle.arrangement_numbers.proofs.BlockLaws.{room_small}

-- ---- one cell

pub largest_small : (i : ℕ) → largest_step_of i ≤ 2
largest_small zero = omega arith
largest_small (suc i) = omega arith

pub product_small : (t m n : ℕ) → t ≤ 64 → m ≤ 2 → n ≤ 7
    → (t * suc m ≤ 192) × (t * suc m * n ≤ 1344)
product_small t m n a b c =
    let p : t * suc m ≤ 192 = mul-le-mul {n₁ = t} {m₁ = suc m} {n₂ = 64} {m₂ = 3} a (omega arith) in
    (p, mul-le-mul {n₁ = t * suc m} {m₁ = n} {n₂ = 192} {m₂ = 7} p c)

pub digit_small : (t m s n : ℕ) → t ≤ 64 → m ≤ 2 → s ≤ 2 → n ≤ 7 → (t * suc m + s) * n ≤ 1358
digit_small t m s n a b d c = mul-le-mul {n₁ = t * suc m + s} {m₁ = n} {n₂ = 194} {m₂ = 7}
    (omega (arith, (product_small t m n a b c).0)) c

pub radix_is : (s n i q : ℕ) → q ≡ suc (largest_step_of i)
    → ones s * q * n ≡ radix (ones s) (place_in s) n (largest_step_of i)
unfolding radix
radix_is s n i q e = rw e

pub digit_is : (s n i t q : ℕ) (c : Cell) → t ≡ place_in s c.terminal → q ≡ suc (largest_step_of i)
    → (t * q + c.step) * n + (c.column - 1) ≡ digit (ones s) (place_in s) n (largest_step_of i) c
unfolding digit
digit_is s n i t q c e f = rw (e, f)

-- ---- the first cells

get_d_cells : (c : Candidate) (i n j k : ℕ) (d : Cell) → j < n → k ≡ i + j
    → get_or (cells c i n) j d ≡ cell_at c k
get_d_cells c i zero j k d h e = absurd (omega arith)
get_d_cells c i (suc n) zero k d h e = let q : i ≡ k = omega arith in rw q
get_d_cells c i (suc n) (suc j) k d h e = get_d_cells c (suc i) n j k d (omega arith) (omega arith)

module _ (s n : ℕ) (small : s < 2 ^ 64) (few : Few s n) (c : Candidate)
    (k : Of.Candidate (Among s) n (cells c 0 n)) where
  pub ranged_at : (i : ℕ) → i < n → (d : Cell) → d ≡ cell_at c i
      → Ranged (Among s) n (largest_step_of i) d
  ranged_at i h d e = rw e (fits_here s n c k i h).ranged

  -- one cell more
  pub front_turn : (i v r x : ℕ) (d : Cell) → i < n → v ≡ number_in s n (take i (cells c 0 n))
      → r ≡ radix (ones s) (place_in s) n (largest_step_of i) → d ≡ cell_at c i
      → x ≡ digit (ones s) (place_in s) n (largest_step_of i) d
      → v * r + x ≡ number_in s n (take (i + 1) (cells c 0 n))
  front_turn i v r x d h ev er ed ex =
      let q = front_step (ones s) (place_in s) n 0 i (cells c 0 n) d
      (omega (arith, cells_size c 0 n)) in
      let g : get_or (cells c 0 n) i d ≡ d = get_d_cells c 0 n i i d h (omega arith) ∙ sym ed in
      rw (ev, er, ex, add-one i) (sym (rw (step_largest i, g) at q))

  -- it fits a word
  pub front_fits : (i v r x : ℕ) (d : Cell) → i < n → v ≡ number_in s n (take i (cells c 0 n))
      → r ≡ radix (ones s) (place_in s) n (largest_step_of i) → d ≡ cell_at c i
      → x ≡ digit (ones s) (place_in s) n (largest_step_of i) d → v * r + x < 4294967296
  front_fits i v r x d h ev er ed ex = omega (
    arith,
    front_turn i v r x d h ev er ed ex,
    front_small s n small few (i + 1) (cells c 0 n)
        (omega arith) k,
  )

-- ---- those that share them

module _ (s n : ℕ) (small : s < 2 ^ 64) (few : Few s n) where
  pub room_end : (i : ℕ) → i ≡ n → 1 ≡ room s n i
  room_end i e = let q : n - i ≡ 0 = omega arith in rw q

  capacity_two : (i j : ℕ) → 0 < i
      → capacity (ones s) (place_in s) n (largest_step_of i) j
      ≡ capacity (ones s) (place_in s) n 2 j
  capacity_two zero j h = absurd (omega arith)
  capacity_two (suc i) j h = refl

  pub room_turn : (i v r : ℕ) → 0 < i → i ≤ n → v ≡ room s n i
      → r ≡ radix (ones s) (place_in s) n (largest_step_of (i - 1)) → r * v ≡ room s n (i - 1)
  room_turn i v r h l ev er =
      let q : n - (i - 1) ≡ suc (n - i) = omega arith in
      rw (ev, er, q) (ap (λ (z : ℕ). radix (ones s) (place_in s) n (largest_step_of (i - 1)) * z)
      (capacity_two i (n - i) h))

  pub room_fits : (i v r : ℕ) → 0 < i → i ≤ n → v ≡ room s n i
      → r ≡ radix (ones s) (place_in s) n (largest_step_of (i - 1)) → r * v ≤ 4294967296
  room_fits i v r h l ev er =
      omega (arith, room_turn i v r h l ev er, room_small s n small few (i - 1) (omega arith))

-- ---- all of them

pub all_none : (t n : ℕ) → 1 ≤ n → t ≡ 0 → 0 ≡ arrangements t n
unfolding arrangements
all_none t zero h e = absurd (omega arith)
all_none t (suc j) h e =
    rw (e, pow-suc 0 j, mul-zero (0 ^ j), zero-mul (3 ^ (suc j - 1)), zero-mul (suc j ^ suc j))

pub all_some : (s n v : ℕ) → 1 ≤ n → v ≡ room s n 0 → v ≡ arrangements (ones s) n
all_some s n v h e = let q : n - 0 ≡ n = omega arith in
    e ∙ rw q (capacity_all (ones s) (place_in s) n h)

pub few_all : (s n : ℕ) → 1 ≤ n → n ≤ 7 → 1 ≤ ones s → arrangements (ones s) n ≤ 4294967296
    → Few s n
few_all s n l u h k = record {
  low = l;
  high = u;
  nonempty = h;
  limit = omega
      (arith, capacity_all (ones s) (place_in s) n l);
}
