-- A number in base ten, read back digit by digit.
use mathlib.Core.Path.{◌≡◌, sym, ap, ◌∙◌}
use mathlib.Core.Bool.{Bool, true, false, cond}
use mathlib.Core.List.{List, [], ◌∷◌, ◌++◌, append_assoc}
use Prim.Native.Nat.{ℕ, zero, suc, ◌+◌, ◌-◌, ◌*◌, ◌/◌, ◌%◌, ◌≤◌, ◌<◌}
use native.Mathlib.Omega.{arith}
use native.Mathlib.Decide.{dec_lt}
use borrow.Author.Tests.{le-leb, lt-leb}
use lib.ListN.{length, get_or}
use Rattle.printing.specs.Printing.{decimal}
use Rattle.printing.proofs.Decimals.{decimal_one, decimal_more, decimal_longer}
use Rattle.fields.specs.Words.{is_digit}

-- the number that the digits in front write, behind digits of the value v, and what follows them
abbrev pub run : ℕ → List ℕ → ℕ × List ℕ
run v [] = (v, [])
run v (b ∷ t) = cond (is_digit b) (run (v * 10 + (b - 48)) t) (v, b ∷ t)

pub run_digit : (v b : ℕ) (t : List ℕ) → 48 ≤ b → b ≤ 57 → run v (b ∷ t) ≡ run (v * 10 + (b - 48)) t
run_digit v b t h k = rw (le-leb 48 b h, le-leb b 57 k)

pub run_low : (v b : ℕ) (t : List ℕ) → b < 48 → run v (b ∷ t) ≡ (v, b ∷ t)
run_low v b t h = rw (lt-leb 48 b h)

-- more digits never make it less
pub run_grows : (v : ℕ) (l : List ℕ) → v ≤ (run v l).0
run_grows v [] = omega arith
run_grows v (b ∷ t) = go (is_digit b) (run_grows (v * 10 + (b - 48)) t)
  where
    go : (d : Bool) → v * 10 + (b - 48) ≤ (run (v * 10 + (b - 48)) t).0
        → v ≤ (cond d (run (v * 10 + (b - 48)) t) (v, b ∷ t)).0
    go true h = omega arith
    go false h = omega arith

-- a written number is read back
read_back : (k n : ℕ) → n < k → (r : List ℕ) → run 0 (decimal n ++ r) ≡ run n r
read_back zero n h r = absurd (omega arith)
read_back (suc k) n h r = go (dec_lt n 10) (λ l. read_back k (n / 10) l)
  where
    go : Dec (n < 10) → (n / 10 < k → (q : List ℕ) → run 0 (decimal (n / 10) ++ q) ≡ run (n / 10) q)
        → run 0 (decimal n ++ r) ≡ run n r
    go (yes s) f =
        let e : 0 * 10 + (48 + n - 48) ≡ n = omega arith in
        rw (decimal_one n s) (run_digit 0 (48 + n) r (omega arith) (omega arith)
        ∙ ap (λ (m : ℕ). run m r) e)
    go (no s) f =
        let e : n / 10 * 10 + (48 + n % 10 - 48) ≡ n = omega arith in
        rw (decimal_more n (omega arith), append_assoc)
        (f (omega arith) ((48 + n % 10) ∷ r) ∙ run_digit (n / 10) (48 + n % 10) r (omega arith)
        (omega arith) ∙ ap (λ (m : ℕ). run m r) e)

pub run_decimal : (n : ℕ) (r : List ℕ) → run 0 (decimal n ++ r) ≡ run n r
run_decimal n r = read_back (suc n) n (omega arith) r

-- with a byte below the digits behind it, a number and what follows are settled
pub run_ended : (n e : ℕ) (t : List ℕ) → e < 48 → run 0 (decimal n ++ (e ∷ t)) ≡ (n, e ∷ t)
run_ended n e t h = run_decimal n (e ∷ t) ∙ run_low n e t h

pub decimal_same : (m n d e : ℕ) (t u : List ℕ) → d < 48 → e < 48
    → decimal m ++ (d ∷ t) ≡ decimal n ++ (e ∷ u) → (m ≡ n) × (t ≡ u)
decimal_same m n d e t u h k p =
    let q : ◌≡◌ {A = ℕ × List ℕ} (m, d ∷ t) (n, e ∷ u) =
    sym (run_ended m d t h) ∙ ap (run 0) p ∙ run_ended n e u k in
    (ap (λ (x : ℕ × List ℕ). x.0) q, let z = ap (λ (x : ℕ × List ℕ). x.1) q in cc)

pub decimal_some : (n : ℕ) → 1 ≤ length (decimal n)
decimal_some n = go (dec_lt n 10)
  where
    go : Dec (n < 10) → 1 ≤ length (decimal n)
    go (yes s) = rw (decimal_one n s) (omega arith)
    go (no s) = omega (arith, decimal_longer n (omega arith))

-- no leading zero
above_zero : (k n : ℕ) → n < k → 1 ≤ n → (r : List ℕ) → 49 ≤ get_or (decimal n ++ r) 0 0
above_zero zero n h p r = absurd (omega arith)
above_zero (suc k) n h p r = go (dec_lt n 10) (λ l q. above_zero k (n / 10) l q)
  where
    go : Dec (n < 10) → (n / 10 < k → 1 ≤ n / 10 → (q : List ℕ)
        → 49 ≤ get_or (decimal (n / 10) ++ q) 0 0) → 49 ≤ get_or (decimal n ++ r) 0 0
    go (yes s) f = rw (decimal_one n s) (omega arith)
    go (no s) f = rw (decimal_more n (omega arith), append_assoc)
        (f (omega arith) (omega arith) ((48 + n % 10) ∷ r))

pub zero_alone : (n : ℕ) (r l : List ℕ) → decimal n ++ r ≡ 48 ∷ l → (n ≡ 0) × (r ≡ l)
zero_alone n r l e = go (dec_lt 0 n)
  where
    go : Dec (0 < n) → (n ≡ 0) × (r ≡ l)
    go (yes p) = let g : get_or (decimal n ++ r) 0 0 ≡ 48 = ap (λ (x : List ℕ). get_or x 0 0) e in
        absurd (omega (arith, above_zero (suc n) n (omega arith) p r))
    go (no p) =
        let z : n ≡ 0 = omega arith in
        let d : 48 ∷ r ≡ 48 ∷ l =
        sym (ap (λ (x : List ℕ). x ++ r) (ap decimal z ∙ decimal_one 0 (omega arith))) ∙ e in
        (z, cc)
