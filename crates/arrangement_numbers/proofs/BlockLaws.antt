-- The numbers of the arrangements that share their first b cells are a run: from `least` on, `room`
-- of them.
use mathlib.Core.Path.{◌≡◌, refl, sym, ◌∙◌, ap, subst}
use mathlib.Core.List.{List, [], ◌∷◌}
use Prim.Native.Nat.{ℕ, zero, suc, ◌+◌, ◌-◌, ◌*◌, ◌^◌, ◌≤◌, ◌<◌}
use native.Mathlib.Omega.{arith}
use native.Mathlib.Nat.{mul_comm, mul_assoc, mul-one, one-mul, zero-mul, suc-mul, add-mul, mul-pos}
use native.Mathlib.Nat.{mul-le-mul_left, mul-le-mul_right}
use lib.ListN.{length, get_or, take, drop, length-take, length-drop}
use lib.Count.{ones}
use Rattle.grammar.specs.declared.Cell.{Cell}
use Rattle.grammar.specs.Candidates.{Cells, Candidate, CellsBefore}
use Rattle.candidates.specs.Terminals.{Among}
use Rattle.candidates.specs.Succession.{Shares}
use Rattle.candidates.specs.Windows.{largest_step_of}
use Rattle.arrangement_numbers.specs.Numbers.{digit, radix, capacity, number_from}
use Rattle.arrangement_numbers.specs.Blocks.{place_in, number_in, room, least, Few}
use Rattle.arrangement_numbers.proofs.NumberLaws.{number_lt, number_mono}
use Rattle.arrangement_numbers.proofs.SetPlaces.{place_rising, place_below}

-- the largest step after b cells, the first step being at most m
abbrev pub largest_after : ℕ → ℕ → ℕ
largest_after m zero = m
largest_after m (suc b) = 2

step_two : (b : ℕ) → largest_after 2 b ≡ 2
step_two zero = refl
step_two (suc b) = refl

pub step_largest : (b : ℕ) → largest_after 0 b ≡ largest_step_of b
step_largest zero = refl
step_largest (suc b) = refl

module _ (T : ℕ) (idx : ℕ → ℕ) (n : ℕ) where
  -- lists of b + j cells
  capacity_split : (m b j l : ℕ) → l ≡ b + j
      → capacity T idx n m l ≡ capacity T idx n m b * capacity T idx n (largest_after m b) j
  capacity_split m zero j l e = let q : l ≡ j = omega arith in
      rw q (sym (one-mul (capacity T idx n m j)))
  capacity_split m (suc b) j zero e = absurd (omega arith)
  capacity_split m (suc b) j (suc l) e =
      ap (λ (x : ℕ). radix T idx n m * x) (capacity_split 2 b j l (omega arith) ∙ rw (step_two b))
      ∙ sym (mul_assoc (radix T idx n m) (capacity T idx n 2 b) (capacity T idx n 2 j))

  -- a digit more at the front
  front : (D A B N R : ℕ) → D * (A * B) + (N * B + R) ≡ (D * A + N) * B + R
  front D A B N R = omega (arith, add-mul (D * A) N B, mul_assoc D A B)

  -- a number by its first b cells and the rest
  number_split : (m b : ℕ) (cs : List Cell) → b ≤ length cs
      → number_from T idx n m cs ≡ number_from T idx n m (take b cs) * capacity T idx n
      (largest_after m b) (length cs - b) + number_from T idx n (largest_after m b) (drop b cs)
  number_split m zero cs h = omega (arith, zero-mul (capacity T idx n m (length cs - 0)))
  number_split m (suc b) [] h = absurd (omega arith)
  number_split m (suc b) (c ∷ cs) h =
      let ih : number_from T idx n 2 cs ≡ number_from T idx n 2 (take b cs) * capacity T idx n 2
      (length cs - b) + number_from T idx n 2 (drop b cs) =
      rw (step_two b) at (number_split 2 b cs (omega arith)) in
      let k : capacity T idx n 2 (length cs) ≡ capacity T idx n 2 b * capacity T idx n 2
      (length cs - b) =
      capacity_split 2 b (length cs - b) (length cs) (omega arith) ∙ rw (step_two b) in
      let t : length (take b cs) ≡ b = omega (arith, length-take b cs) in
      let d : suc (length cs) - suc b ≡ length cs - b = omega arith in
      rw (t, k, d, ih) (front (digit T idx n m c) (capacity T idx n 2 b)
      (capacity T idx n 2 (length cs - b)) (number_from T idx n 2 (take b cs))
      (number_from T idx n 2 (drop b cs)))

-- ---- over a set of terminals

module _ (s n : ℕ) (small : s < 2 ^ 64) where
  pub number_rises : {cs ds : List Cell} → Candidate (Among s) n cs → Candidate (Among s) n ds
      → CellsBefore cs ds → number_in s n cs < number_in s n ds
  number_rises {cs} {ds} k l b =
      number_mono (ones s) (place_in s) n (Among s) (λ x m. place_below s small x m)
      (λ x y m o h. place_rising s x y m h) 0 cs ds
      (k.arranged.size ∙ sym l.arranged.size) k.arranged.cells
      l.arranged.cells b

  cells_drop : (Q : ℕ → Type 0) (m b : ℕ) (cs : List Cell) → Cells Q n m cs
      → Cells Q n (largest_after m b) (drop b cs)
  cells_drop Q m zero cs k = k
  cells_drop Q m (suc b) [] k = tt
  cells_drop Q m (suc b) (c ∷ cs) k =
      subst (λ (x : ℕ). Cells Q n x (drop b cs)) (step_two b) (cells_drop Q 2 b cs k.1)

  -- the numbers of all that share cs's first b cells
  module _ (b : ℕ) (cs : List Cell) (h : b ≤ n) {ds : List Cell} (k : Candidate (Among s) n ds)
      (e : Shares b ds cs) where
    split : number_in s n ds ≡ least s n b cs + number_from (ones s) (place_in s) n
        (largest_step_of b)
        (drop b ds)
    split =
        let q = number_split (ones s) (place_in s) n 0 b ds (omega (arith, k.arranged.size)) in
        rw (k.arranged.size, step_largest b, e) at q

    pub block_low : least s n b cs ≤ number_in s n ds
    block_low = omega (arith, split)

    pub block_high : number_in s n ds < least s n b cs + room s n b
    block_high =
        let q = number_lt (ones s) (place_in s) n (Among s) (λ x m. place_below s small x m)
        (largest_after 0 b) (drop b ds) (cells_drop (Among s) 0 b ds k.arranged.cells) in
        let r : number_from (ones s) (place_in s) n (largest_step_of b) (drop b ds) < room s n b =
        rw (step_largest b, length-drop b ds, k.arranged.size) at q in
        omega (arith, split)

-- ---- as the code works it out

module _ (T : ℕ) (idx : ℕ → ℕ) (n : ℕ) where
  -- a digit more at the end
  back : (D A R N X : ℕ) → D * (R * A) + (N * R + X) ≡ (D * A + N) * R + X
  back D A R N X =
      omega (arith, add-mul (D * A) N R, mul_assoc D A R, ap (λ (z : ℕ). D * z) (mul_comm A R))

  pub front_step : (m i : ℕ) (cs : List Cell) (d : Cell) → i < length cs
      → number_from T idx n m (take (suc i) cs) ≡ number_from T idx n m (take i cs) * radix T idx n
      (largest_after m i) + digit T idx n (largest_after m i) (get_or cs i d)
  front_step m i [] d h = absurd (omega arith)
  front_step m zero (c ∷ cs) d h =
      omega (arith, mul-one (digit T idx n m c), zero-mul (radix T idx n m))
  front_step m (suc i) (c ∷ cs) d h =
      let ih : number_from T idx n 2 (take (suc i) cs) ≡ number_from T idx n 2 (take i cs) * radix T
      idx n 2 + digit T idx n 2 (get_or cs i d) =
      rw (step_two i) at (front_step 2 i cs d (omega arith)) in
      let t : length (take (suc i) cs) ≡ suc i = omega (arith, length-take (suc i) cs) in
      let u : length (take i cs) ≡ i = omega (arith, length-take i cs) in
      rw (t, u, ih) (back (digit T idx n m c) (capacity T idx n 2 i) (radix T idx n 2)
      (number_from T idx n 2 (take i cs)) (digit T idx n 2 (get_or cs i d)))

  radix_pos : 1 ≤ T → 1 ≤ n → (m : ℕ) → 1 ≤ radix T idx n m
  unfolding radix
  radix_pos h k m = mul-pos (mul-pos {m = T} {n = suc m} h (omega arith)) k

  pub capacity_pos : 1 ≤ T → 1 ≤ n → (m j : ℕ) → 1 ≤ capacity T idx n m j
  capacity_pos h k m zero = omega arith
  capacity_pos h k m (suc j) = mul-pos (radix_pos h k m) (capacity_pos h k 2 j)

cells_take : (Q : ℕ → Type 0) (n m b : ℕ) (cs : List Cell) → Cells Q n m cs
    → Cells Q n m (take b cs)
cells_take Q n m zero cs k = tt
cells_take Q n m (suc b) [] k = tt
cells_take Q n m (suc b) (c ∷ cs) k = (k.0, cells_take Q n 2 b cs k.1)

module _ (s n : ℕ) (small : s < 2 ^ 64) (few : Few s n) where
  pub room_pos : (b : ℕ) → 1 ≤ room s n b
  room_pos b =
      capacity_pos (ones s) (place_in s) n few.nonempty few.low (largest_step_of b) (n - b)

  whole : (b : ℕ) → b ≤ n → capacity (ones s) (place_in s) n 0 n
      ≡ capacity (ones s) (place_in s) n 0 b * room s n b
  whole b h =
      capacity_split (ones s) (place_in s) n 0 b (n - b) n (omega arith) ∙ rw (step_largest b)

  pub room_small : (b : ℕ) → b ≤ n → room s n b ≤ 4294967296
  room_small b h =
      let p : 1 ≤ capacity (ones s) (place_in s) n 0 b =
      capacity_pos (ones s) (place_in s) n few.nonempty few.low 0 b in
      let q : 1 * room s n b ≤ capacity (ones s) (place_in s) n 0 b * room s n b =
      mul-le-mul_right (room s n b) p in
      omega (arith, q, one-mul (room s n b), whole b h, few.limit)

  module _ (b : ℕ) (cs : List Cell) (h : b ≤ n) (k : Candidate (Among s) n cs) where
    front_lt : number_in s n (take b cs) < capacity (ones s) (place_in s) n 0 b
    front_lt =
        let q = number_lt (ones s) (place_in s) n (Among s) (λ x m. place_below s small x m) 0
        (take b cs) (cells_take (Among s) n 0 b cs k.arranged.cells) in
        let e : length (take b cs) ≡ b = omega (arith, length-take b cs, k.arranged.size) in
        rw e at q

    pub block_small : least s n b cs + room s n b ≤ 4294967296
    block_small =
        let q : suc (number_in s n (take b cs)) * room s n b
        ≤ capacity (ones s) (place_in s) n 0 b * room s n b =
        mul-le-mul_right (room s n b) front_lt in
        omega (arith, q, suc-mul (number_in s n (take b cs)) (room s n b), whole b h, few.limit)

    pub front_small : number_in s n (take b cs) < 4294967296
    front_small =
        let q : suc (number_in s n (take b cs)) * 1 ≤ suc (number_in s n (take b cs)) * room s n b =
        mul-le-mul_left (suc (number_in s n (take b cs))) (room_pos b) in
        omega (
          arith,
          q,
          mul-one (suc (number_in s n (take b cs))),
          suc-mul
              (number_in s n (take b cs)) (room s n b),
          block_small,
        )
