-- Sets by members: what the `and` and the `or` of two words have.
use mathlib.Core.Path.{◌≡◌, ap, ◌∙◌}
use mathlib.Core.Logic.{◌⊎◌, inl, inr, ⊎_elim, ◌↔◌}
use Prim.Native.Nat.{ℕ, ◌/◌, ◌%◌, ◌^◌, ◌<◌, max, min}
use native.Mathlib.Omega.{arith}
use native.Mathlib.Nat.{mod-lt}
use native.Mathlib.Decide.{ℕ_discrete}
use lib.Bits.{bit_and, bit_or, and_step, or_step, and_shr, or_shr}
use lib.Arith.{digits_mod}
use Rattle.sets.specs.Sets.{In}

pub below_two : (n : ℕ) → n % 2 < 2
below_two n = mod-lt n (omega arith)

pub or_odd : (x y : ℕ) → bit_or x y % 2 ≡ max (x % 2) (y % 2)
or_odd x y =
    ap (λ (n : ℕ). n % 2) (or_step x y)
    ∙ digits_mod (bit_or (x / 2) (y / 2)) (omega (arith, below_two x, below_two y))

pub and_odd : (x y : ℕ) → bit_and x y % 2 ≡ min (x % 2) (y % 2)
and_odd x y =
    ap (λ (n : ℕ). n % 2) (and_step x y)
    ∙ digits_mod (bit_and (x / 2) (y / 2)) (omega (arith, below_two x, below_two y))

pub or_digit : (x y c : ℕ) → bit_or x y / 2 ^ c % 2 ≡ max (x / 2 ^ c % 2) (y / 2 ^ c % 2)
or_digit x y c = ap (λ (n : ℕ). n % 2) (or_shr x y c) ∙ or_odd (x / 2 ^ c) (y / 2 ^ c)

pub and_digit : (x y c : ℕ) → bit_and x y / 2 ^ c % 2 ≡ min (x / 2 ^ c % 2) (y / 2 ^ c % 2)
and_digit x y c = ap (λ (n : ℕ). n % 2) (and_shr x y c) ∙ and_odd (x / 2 ^ c) (y / 2 ^ c)

pub in_or : (x y c : ℕ) → In (bit_or x y) c ↔ (In x c ⊎ In y c)
in_or x y c = (
  λ h. go h.digit (ℕ_discrete (x / 2 ^ c % 2) 1),
  λ s.
      ⊎_elim
      (λ h. record { digit = or_digit x y c ∙ omega (arith, h.digit, below_two (y / 2 ^ c)) })
      (λ h. record { digit = or_digit x y c ∙ omega (arith, h.digit, below_two (x / 2 ^ c)) }) s,
)
  where
    go : bit_or x y / 2 ^ c % 2 ≡ 1 → Dec (x / 2 ^ c % 2 ≡ 1) → In x c ⊎ In y c
    go h (yes e) = inl (record { digit = e })
    go h (no n) =
        let a = below_two (x / 2 ^ c) in
        let b = below_two (y / 2 ^ c) in
        inr (record { digit = omega (arith, or_digit x y c, a, b, h, n) })

pub in_and : (x y c : ℕ) → In (bit_and x y) c ↔ (In x c × In y c)
in_and x y c = (
  λ h.
      let d = and_digit x y c in
      let a = below_two (x / 2 ^ c) in
      let b = below_two (y / 2 ^ c) in (
        record { digit = omega (arith, d, a, b, h.digit) },
        record { digit = omega (arith, d, a, b, h.digit) },
      ),
  λ s. record { digit = and_digit x y c ∙ omega (arith, s.0.digit, s.1.digit) },
)
