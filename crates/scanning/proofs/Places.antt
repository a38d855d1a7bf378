-- Digits read from a place of a text on: where the reading stands, and where it stops.
use mathlib.Core.Path.{◌≡◌, refl, sym, ap, ◌∙◌}
use mathlib.Core.Logic.{◌⊎◌, inl, inr}
use mathlib.Core.Bool.{false}
use mathlib.Core.List.{List, ◌∷◌, ◌++◌, append_assoc}
use Prim.Native.Nat.{ℕ, ◌+◌, ◌-◌, ◌*◌, ◌/◌, ◌%◌, ◌≤◌, ◌<◌}
use native.Mathlib.Numerals.{add-one}
use native.Mathlib.Omega.{arith}
use lib.ListN.{length, drop, get_or, drop_of_length-le}
use lib.Seq.{drop-cons}
use Rattle.printing.specs.Printing.{decimal}
use Rattle.printing.proofs.Decimals.{decimal_one, decimal_more}
use Rattle.scanning.specs.Scanned.{DigitsAt}
use Rattle.fields.specs.Words.{is_digit}
use Rattle.scanning.proofs.Numbers.{run, run_digit, run_grows}
use Rattle.scanning.proofs.Numbers.{run_decimal, run_ended, zero_alone}

module _ (s : List ℕ) (at most : ℕ) where
  -- i is reached, and the digits before it write v: none, or a number that is not 0
  pub record Reached (v i : ℕ) : Type 0 where
    pub inside : i ≤ length s
    pub from : at ≤ i
    pub small : v ≤ most
    pub read : ((i ≡ at) × (v ≡ 0)) ⊎ ((1 ≤ v) × (drop at s ≡ decimal v ++ drop i s))

  pub reached_none : at ≤ length s → Reached 0 at
  reached_none h =
      record { inside = h; from = omega arith; small = omega arith; read = inl (refl, refl) }

  next : (i : ℕ) → i < length s → drop i s ≡ get_or s i 0 ∷ drop (i + 1) s
  next i h = rw (add-one i) (drop-cons s i 0 h)

  -- one digit more
  pub reached_more : {v i : ℕ} (b : ℕ) → get_or s i 0 ≡ b → Reached v i → i < length s → 48 ≤ b
      → b ≤ 57 → v * 10 + (b - 48) ≤ most → 1 ≤ v * 10 + (b - 48)
      → Reached (v * 10 + (b - 48)) (i + 1)
  reached_more {v} {i} b p x h l u m n =
      record {
        inside = omega arith;
        from = omega (arith, x.from);
        small = m;
        read = inr (n, go x.read);
      }
    where
      front : drop i s ≡ b ∷ drop (i + 1) s
      front = next i h ∙ ap (λ (y : ℕ). y ∷ drop (i + 1) s) p

      go : ((i ≡ at) × (v ≡ 0)) ⊎ ((1 ≤ v) × (drop at s ≡ decimal v ++ drop i s))
          → drop at s ≡ decimal (v * 10 + (b - 48)) ++ drop (i + 1) s
      go (inl y) =
          let e : v * 10 + (b - 48) ≡ b - 48 = omega (arith, y.1) in
          let d : 48 + (b - 48) ≡ b = omega arith in
          rw (e, decimal_one (b - 48) (omega arith), d)
          (ap (λ (j : ℕ). drop j s) (sym y.0) ∙ front)
      go (inr y) =
          let q : (v * 10 + (b - 48)) / 10 ≡ v = omega arith in
          let r : 48 + (v * 10 + (b - 48)) % 10 ≡ b = omega arith in
          rw (decimal_more (v * 10 + (b - 48)) (omega (arith, y.0)), q, r, append_assoc)
          (y.1 ∙ ap (λ (l : List ℕ). decimal v ++ l) front)

  -- what is read from the start is what is read on from here
  on : {v i : ℕ} → Reached v i → run 0 (drop at s) ≡ run v (drop i s)
  on {v} {i} x = go x.read
    where
      go : ((i ≡ at) × (v ≡ 0)) ⊎ ((1 ≤ v) × (drop at s ≡ decimal v ++ drop i s))
          → run 0 (drop at s) ≡ run v (drop i s)
      go (inl y) = rw (y.0, y.1) refl
      go (inr y) = ap (run 0) y.1 ∙ run_decimal v (drop i s)

  -- it stops where nothing more is read
  stop : {v i : ℕ} → Reached v i → run v (drop i s) ≡ (v, drop i s)
      → DigitsAt s at most (record { value = v; next = i })
  stop {v} {i} x e = record {
    read = go x.read;
    inside = x.inside;
    small = x.small;
    only = λ w
        f t m l p. only w f t l p;
  }
    where
      go : ((i ≡ at) × (v ≡ 0)) ⊎ ((1 ≤ v) × (drop at s ≡ decimal v ++ drop i s))
          → (i ≡ at) ⊎ (drop at s ≡ decimal v ++ drop i s)
      go (inl y) = inl y.0
      go (inr y) = inr y.1

      only : (w f : ℕ) (t : List ℕ) → f < 48 → drop at s ≡ decimal w ++ (f ∷ t)
          → (v ≡ w) × (drop i s ≡ f ∷ t)
      only w f t l p =
          let q : ◌≡◌ {A = ℕ × List ℕ} (v, drop i s) (w, f ∷ t) =
          sym e ∙ sym (on x) ∙ ap (run 0) p ∙ run_ended w f t l in
          (ap (λ (y : ℕ × List ℕ). y.0) q, ap (λ (y : ℕ × List ℕ). y.1) q)

  pub stop_end : {v i : ℕ} → Reached v i → length s ≤ i
      → DigitsAt s at most (record { value = v; next = i })
  stop_end {v} {i} x h = stop x (rw (drop_of_length-le s {i = i} h) refl)

  pub stop_other : {v i : ℕ} → Reached v i → i < length s → is_digit (get_or s i 0) ≡ false
      → DigitsAt s at most (record { value = v; next = i })
  stop_other {v} {i} x h e = stop x (rw (next i h, e) refl)

  -- it stops where the number would be above `most`
  pub stop_most : {v i : ℕ} → Reached v i → i < length s → 48 ≤ get_or s i 0 → get_or s i 0 ≤ 57
      → most < v * 10 + (get_or s i 0 - 48) → DigitsAt s at most (record { value = v; next = i })
  stop_most {v} {i} x h l u m = record {
    read = go x.read;
    inside = x.inside;
    small = x.small;
    only = λ w f t k j p. absurd (only w f t k j p);
  }
    where
      go : ((i ≡ at) × (v ≡ 0)) ⊎ ((1 ≤ v) × (drop at s ≡ decimal v ++ drop i s))
          → (i ≡ at) ⊎ (drop at s ≡ decimal v ++ drop i s)
      go (inl y) = inl y.0
      go (inr y) = inr y.1

      only : (w f : ℕ) (t : List ℕ) → w ≤ most → f < 48 → drop at s ≡ decimal w ++ (f ∷ t) → ⊥
      only w f t k j p =
          let q : ◌≡◌ {A = ℕ × List ℕ} (w, f ∷ t)
          (run (v * 10 + (get_or s i 0 - 48)) (drop (i + 1) s)) =
          sym (run_ended w f t j) ∙ ap (run 0) (sym p) ∙ on x ∙ ap (run v) (next i h)
          ∙ run_digit v (get_or s i 0) (drop (i + 1) s) l u in
          let z : w ≡ (run (v * 10 + (get_or s i 0 - 48)) (drop (i + 1) s)).0 =
          ap (λ (y : ℕ × List ℕ). y.0) q in
          omega (arith, run_grows (v * 10 + (get_or s i 0 - 48)) (drop (i + 1) s))

  -- it stops behind a zero, which begins no other number
  pub stop_zero : {v i : ℕ} → Reached v i → i < length s → 48 ≤ get_or s i 0
      → v * 10 + (get_or s i 0 - 48) ≡ 0 → DigitsAt s at most (record { value = 0; next = i + 1 })
  stop_zero {v} {i} x h l z = go x.read
    where
      b : get_or s i 0 ≡ 48
      b = omega arith

      go : ((i ≡ at) × (v ≡ 0)) ⊎ ((1 ≤ v) × (drop at s ≡ decimal v ++ drop i s))
          → DigitsAt s at most (record { value = 0; next = i + 1 })
      go (inr y) = absurd (omega (arith, y.0))
      go (inl y) = record {
        read = inr front;
        inside = omega arith;
        small = omega arith;
        only = λ w
            f t m k p. only w f t p;
      }
        where
          zero_first : drop at s ≡ 48 ∷ drop (i + 1) s
          zero_first = ap (λ (j : ℕ). drop j s) (sym y.0) ∙ next i h
              ∙ ap (λ (d : ℕ). d ∷ drop (i + 1) s) b

          front : drop at s ≡ decimal 0 ++ drop (i + 1) s
          front = rw (decimal_one 0 (omega arith)) zero_first

          only : (w f : ℕ) (t : List ℕ) → drop at s ≡ decimal w ++ (f ∷ t)
              → (0 ≡ w) × (drop (i + 1) s ≡ f ∷ t)
          only w f t p = let q = zero_alone w (f ∷ t) (drop (i + 1) s) (sym p ∙ zero_first) in
              (sym q.0, sym q.1)
