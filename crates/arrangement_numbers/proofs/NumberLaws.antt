-- The numbers of arrangements rise in the sweep's order, are below M, and every number below M is
-- one.
use mathlib.Core.Path.{◌≡◌, refl, ◌∙◌, ap}
use mathlib.Core.List.{List, [], ◌∷◌}
use mathlib.Core.Logic.{inl, inr}
use Prim.Native.Nat.{ℕ, zero, suc, ◌+◌, ◌-◌, ◌*◌, ◌^◌, ◌/◌, ◌%◌, ◌≤◌, ◌<◌}
use native.Mathlib.Omega.{arith}
use native.Mathlib.Nat.{div-add-mod', div-lt_iff_lt-mul, mod-lt, mul-zero, mul_comm}
use native.Mathlib.Nat.{mul-mul-mul_comm, mul-one, pow-zero, pow-suc}
use lib.ListN.{length}
use lib.Arith.{digits_lt}
use Rattle.grammar.specs.declared.Cell.{Cell}
use Rattle.grammar.specs.Candidates.{Ranged, Cells, CellBefore, CellsBefore}
use Rattle.grammar.specs.Sweeps.{arrangements}
use Rattle.arrangement_numbers.specs.Numbers.{digit, radix, capacity, number_from}

-- a greater leading digit
digits_mono : {a b c r : ℕ} (s : ℕ) → a < b → r < c → a * c + r < b * c + s
digits_mono {a} {b} {c} {r} s h k = omega (arith, digits_lt {q = a} {m = b} {r = r} {c = c} h k)

module _ (T : ℕ) (idx : ℕ → ℕ) (n : ℕ) (Q : ℕ → Type 0) (below : (x : ℕ) → Q x → idx x < T) where
  pub digit_lt : (m : ℕ) (c : Cell) → Ranged Q n m c → digit T idx n m c < radix T idx n m
  unfolding digit radix
  digit_lt m c r = digits_lt {q = idx c.terminal * suc m + c.step} {m = T * suc m}
      (digits_lt {q = idx c.terminal} {m = T} {r = c.step} {c = suc m}
      (below c.terminal r.terminal) (omega (arith, r.step)))
      (omega (arith, r.low, r.high))

  pub number_lt : (m : ℕ) (cs : List Cell) → Cells Q n m cs
      → number_from T idx n m cs < capacity T idx n m (length cs)
  number_lt m [] k = omega arith
  number_lt m (c ∷ cs) k = digits_lt {q = digit T idx n m c} {m = radix T idx n m}
      {r = number_from T idx n 2 cs} {c = capacity T idx n 2 (length cs)} (digit_lt m c k.0)
      (number_lt 2 cs k.1)

  module _ (rising : (x y : ℕ) → Q x → Q y → x < y → idx x < idx y) where
    digit_mono : (m : ℕ) (c d : Cell) → Ranged Q n m c → Ranged Q n m d → CellBefore c d
        → digit T idx n m c < digit T idx n m d
    unfolding digit
    digit_mono m c d r q (inl h) =
        digits_mono {a = idx c.terminal * suc m + c.step}
        {b = idx d.terminal * suc m + d.step} {c = n} {r = c.column - 1} (d.column - 1)
        (digits_mono {a = idx c.terminal} {b = idx d.terminal} {c = suc m} {r = c.step}
        d.step (rising c.terminal d.terminal r.terminal q.terminal h)
        (omega (arith, r.step))) (omega (arith, r.low, r.high))
    digit_mono m c d r q (inr (inl h)) =
        digits_mono {a = idx c.terminal * suc m + c.step}
        {b = idx d.terminal * suc m + d.step} {c = n} {r = c.column - 1} (d.column - 1)
        (rw h.0 (omega (arith, h.1))) (omega (arith, r.low, r.high))
    digit_mono m c d r q (inr (inr h)) = rw (h.0, h.1) (omega (arith, h.2, r.low, q.low))

    -- numbers rise in the order
    pub number_mono : (m : ℕ) (cs ds : List Cell) → length cs ≡ length ds → Cells Q n m cs
        → Cells Q n m ds → CellsBefore cs ds → number_from T idx n m cs < number_from T idx n m ds
    number_mono m [] ds e k l b = absurd b
    number_mono m (c ∷ cs) [] e k l b = absurd b
    number_mono m (c ∷ cs) (d ∷ ds) e k l (inl b) =
        let e' : length cs ≡ length ds = omega arith in
        rw (← e') (digits_mono {a = digit T idx n m c} {b = digit T idx n m d}
        {c = capacity T idx n 2 (length cs)} {r = number_from T idx n 2 cs}
        (number_from T idx n 2 ds) (digit_mono m c d k.0 l.0 b)
        (number_lt 2 cs k.1))
    number_mono m (c ∷ cs) (d ∷ ds) e k l (inr b) =
        let e' : length cs ≡ length ds = omega arith in
        let lt = number_mono 2 cs ds e' k.1 l.1 b.1 in
        rw (b.0, e') (omega arith)

-- ---- how many there are

shuffle : (t b n A B C : ℕ) → t * b * n * (A * B * C) ≡ A * t * (B * b) * (C * n)
shuffle t b n A B C =
    mul-mul-mul_comm (t * b) n (A * B) C ∙ rw
    (mul-mul-mul_comm t b A B, mul_comm t A, mul_comm b B, mul_comm n C)

radixed : (T : ℕ) (idx : ℕ → ℕ) (n A B C : ℕ)
    → radix T idx n 2 * (A * B * C) ≡ A * T * (B * 3) * (C * n)
unfolding radix
radixed T idx n A B C = shuffle T 3 n A B C

capacity_later : (T : ℕ) (idx : ℕ → ℕ) (n j : ℕ) → capacity T idx n 2 j ≡ T ^ j * 3 ^ j * n ^ j
capacity_later T idx n zero = rw (pow-zero T, pow-zero 3, pow-zero n)
capacity_later T idx n (suc j) = rw
    (capacity_later T idx n j, pow-suc T j, pow-suc 3 j, pow-suc n j)
    (radixed T idx n (T ^ j) (3 ^ j) (n ^ j))

capacity_whole : (T : ℕ) (idx : ℕ → ℕ) (n j : ℕ)
    → capacity T idx n 0 (suc j) ≡ T ^ suc j * 3 ^ j * n ^ suc j
unfolding radix
capacity_whole T idx n j =
    rw (capacity_later T idx n j, pow-suc T j, pow-suc n j)
    (shuffle T 1 n (T ^ j) (3 ^ j) (n ^ j) ∙ rw (mul-one (3 ^ j)))

-- M
pub capacity_all : (T : ℕ) (idx : ℕ → ℕ) (n : ℕ) → 1 ≤ n → capacity T idx n 0 n ≡ arrangements T n
unfolding arrangements
capacity_all T idx zero h = absurd (omega arith)
capacity_all T idx (suc j) h = let e : suc j - 1 ≡ j = omega arith in
    capacity_whole T idx (suc j) j ∙ rw e

pos_right : (a b : ℕ) → 0 < a * b → 0 < b
pos_right a zero h = absurd (omega (arith, mul-zero a))
pos_right a (suc b) h = omega arith

-- ---- every number below is the number of some cells

module _ (T : ℕ) (idx : ℕ → ℕ) (n : ℕ) (Q : ℕ → Type 0)
    (pick : (i : ℕ) → i < T → (x : ℕ) × Q x × (idx x ≡ i)) where
  pub record Numbered (m j N : ℕ) : Type 0 where
    pub cells : List Cell
    pub size : length cells ≡ j
    pub ranged : Cells Q n m cells
    pub number : number_from T idx n m cells ≡ N

  record Digit (m D : ℕ) : Type 0 where
    pub cell : Cell
    pub ranged : Ranged Q n m cell
    pub value : digit T idx n m cell ≡ D

  undigit : (m D : ℕ) → D < radix T idx n m → Digit m D
  unfolding digit radix
  undigit m D h = record {
    cell = record { terminal = x.0; step = D / n % suc m; column = D % n + 1 };
    ranged = record {
      terminal = x.1;
      step = omega
          (arith, mod-lt (D / n) {m = suc m} (omega arith));
      low = omega arith;
      high =
          omega (arith, mod-lt D {m = n} some);
    };
    value = value;
  }
    where
      some : 0 < n
      some = pos_right (T * suc m) n (omega (arith, h))

      upper : D / n < T * suc m
      upper = (div-lt_iff_lt-mul some).1 h

      x : (x : ℕ) × Q x × (idx x ≡ D / n / suc m)
      x = pick (D / n / suc m) ((div-lt_iff_lt-mul (omega arith)).1 upper)

      value : (idx x.0 * suc m + D / n % suc m) * n + (D % n + 1 - 1) ≡ D
      value =
          let a : D / n / suc m * suc m + D / n % suc m ≡ D / n = div-add-mod' (D / n) (suc m) in
          let b : D / n * n + D % n ≡ D = div-add-mod' D n in
          let c : D % n + 1 - 1 ≡ D % n = omega arith in
          rw (x.2, a, c) b

  unrank_cons : (m j N : ℕ) → N < radix T idx n m * capacity T idx n 2 j
      → ((M : ℕ) → M < capacity T idx n 2 j → Numbered 2 j M) → Numbered m (suc j) N
  unrank_cons m j N h rec = record {
    cells = d.cell ∷ r.cells;
    size = ap suc r.size;
    ranged = (d.ranged, r.ranged);
    number = rw (r.size, r.number, d.value) (div-add-mod' N C);
  }
    where
      C : ℕ
      C = capacity T idx n 2 j

      some : 0 < C
      some = pos_right (radix T idx n m) C (omega (arith, h))

      d : Digit m (N / C)
      d = undigit m (N / C) ((div-lt_iff_lt-mul some).1 h)

      r : Numbered 2 j (N % C)
      r = rec (N % C) (mod-lt N some)

  pub unrank : (m j N : ℕ) → N < capacity T idx n m j → Numbered m j N
  unrank m zero N h = record { cells = []; size = refl; ranged = tt; number = omega arith }
  unrank m (suc j) N h = unrank_cons m j N h (λ M k. unrank 2 j M k)
