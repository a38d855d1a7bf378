-- The places of a set's members, digit by digit; over the set of a sheet's terminals they are the
-- terminals' places.
use mathlib.Core.Path.{◌≡◌, refl, ◌∙◌, ap, ap₂}
use mathlib.Core.List.{List, [], ◌∷◌}
use Prim.Native.Nat.{ℕ, zero, suc, ◌+◌, ◌*◌, ◌/◌, ◌%◌, ◌^◌, ◌≤◌, ◌<◌}
use native.Mathlib.Omega.{arith}
use native.Mathlib.Nat.{mod-lt, mod-eq_of_lt}
use native.Mathlib.Decide.{le_ind}
use lib.ListN.{length}
use lib.Pow.{pow_pos, mod-pow-add}
use lib.Count.{ones, ones_in, ones_cat}
use Rattle.grammar.specs.declared.Cell.{Cell}
use Rattle.grammar.specs.Trees.{Rules}
use Rattle.grammar.specs.Sweeps.{terminal_count, terminals_below}
use Rattle.candidates.specs.Terminals.{Among, Terminals}
use Rattle.candidates.proofs.Counting.{ones_below, counted}
use Rattle.arrangement_numbers.specs.Numbers.{digit, radix, capacity, number_from, number}
use Rattle.arrangement_numbers.specs.Blocks.{place_in, number_in}

module _ (s : ℕ) where
  ones_digit : (b : ℕ) → b < 2 → ones b ≡ b
  unfolding ones ones_in
  ones_digit zero h = refl
  ones_digit (suc zero) h = refl
  ones_digit (suc (suc b)) h = absurd (omega arith)

  -- one number more
  pub place_suc : (x : ℕ) → place_in s (suc x) ≡ s / 2 ^ x % 2 + place_in s x
  place_suc x =
      ap (λ (z : ℕ). ones (s % 2 ^ z)) (let e : suc x ≡ 1 + x = omega arith in e)
      ∙ ap ones (mod-pow-add s 1 x)
      ∙ ones_cat x (s / 2 ^ x % 2) (s % 2 ^ x) (mod-lt s (pow_pos x))
      ∙ ap (λ (z : ℕ). z + place_in s x)
      (ones_digit (s / 2 ^ x % 2) (mod-lt (s / 2 ^ x) (omega arith)))

  place_mono : (x y : ℕ) → x ≤ y → place_in s x ≤ place_in s y
  place_mono x y h = le_ind (λ (m : ℕ). place_in s x ≤ place_in s m) (omega arith)
      (λ m l v. omega (arith, v, place_suc m)) y h

  -- a greater member has a greater place
  pub place_rising : (x y : ℕ) → Among s x → x < y → place_in s x < place_in s y
  place_rising x y m h = omega (arith, place_mono (suc x) y (omega arith), place_suc x, m.1.digit)

  pub place_below : s < 2 ^ 64 → (x : ℕ) → Among s x → place_in s x < ones s
  place_below h x m = let e : place_in s 64 ≡ ones s = ap ones (mod-eq_of_lt h) in
      omega (arith, place_rising x 64 m m.0)

-- ---- numbers go by the places

module _ (T U : ℕ) (idx jdx : ℕ → ℕ) (n : ℕ) (e : T ≡ U) (f : (x : ℕ) → idx x ≡ jdx x) where
  radix_same : (m : ℕ) → radix T idx n m ≡ radix U jdx n m
  unfolding radix
  radix_same m = rw e

  pub capacity_same : (m j : ℕ) → capacity T idx n m j ≡ capacity U jdx n m j
  capacity_same m zero = refl
  capacity_same m (suc j) = ap₂ ◌*◌ (radix_same m) (capacity_same 2 j)

  digit_same : (m : ℕ) (c : Cell) → digit T idx n m c ≡ digit U jdx n m c
  unfolding digit
  digit_same m c = rw (f c.terminal)

  pub number_same : (m : ℕ) (cs : List Cell) → number_from T idx n m cs ≡ number_from U jdx n m cs
  number_same m [] = refl
  number_same m (c ∷ cs) =
      ap₂ ◌+◌ (ap₂ ◌*◌ (digit_same m c) (capacity_same 2 (length cs))) (number_same 2 cs)

-- over the set of the sheet's terminals, the numbers are the definition's
pub number-in : (g : Rules) (s n : ℕ) → s < 2 ^ 64 → Terminals g s → (cs : List Cell)
    → number_in s n cs ≡ number g n cs
number-in g s n h t cs = number_same (ones s) (terminal_count g) (place_in s) (terminals_below g) n
    ((counted s h).terminals g t) (ones_below g s t) 0 cs
