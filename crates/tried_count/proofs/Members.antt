-- The members of a set below a number, counted.
use mathlib.Core.Path.{◌≡◌, refl, sym, ◌∙◌, ap, ap₂}
use mathlib.Core.Logic.{◌⊎◌, inl, inr}
use Prim.Native.Nat.{ℕ, zero, suc, ◌+◌, ◌/◌, ◌%◌, ◌^◌, ◌≤◌, ◌<◌}
use native.Mathlib.Omega.{arith}
use native.Mathlib.Decide.{dec_lt}
use native.Mathlib.Nat.{pow-zero, mod-one, mod-lt, mod-eq_of_lt, add_comm}
use lib.Pow.{pow_pos, mod-pow-add}
use lib.Count.{ones, ones_in, ones_cat}
use Rattle.sets.specs.Sets.{In}
use Rattle.candidates.specs.Terminals.{Among}
use Rattle.counting.specs.Counts.{HowMany}
use Rattle.counting.proofs.CountLaws.{counts_none, counts_one, counts_iff, counts_plus}
use Rattle.tried_count.specs.Rows.{members_below_of}

digit_low : (s a : ℕ) → s / 2 ^ a % 2 < 2
digit_low s a = mod-lt (s / 2 ^ a) (omega arith)

pub members_le : (s a : ℕ) → members_below_of s a ≤ a
unfolding members_below_of
members_le s zero = omega arith
members_le s (suc a) = omega (arith, members_le s a, digit_low s a)

-- the number a, where it is a member
here : (s a : ℕ) → HowMany (λ (x : ℕ). (x ≡ a) × In s x) (s / 2 ^ a % 2)
here s a = go (s / 2 ^ a % 2) refl (digit_low s a)
  where
    go : (d : ℕ) → s / 2 ^ a % 2 ≡ d → d < 2 → HowMany (λ (x : ℕ). (x ≡ a) × In s x) d
    go zero e l =
        counts_none (λ x h. let z : In s a = rw h.0 at h.1 in omega (arith, e, z.digit))
    go (suc zero) e l = counts_one a (refl, record { digit = e }) (λ x h. h.0)
    go (suc (suc d)) e l = absurd (omega arith)

pub members_count : (s a : ℕ) → HowMany (λ (x : ℕ). (x < a) × In s x) (members_below_of s a)
unfolding members_below_of
members_count s zero = counts_none (λ x h. omega (arith, h.0))
members_count s (suc a) = counts_iff to from
    (counts_plus (members_count s a) (here s a) (λ x h k. omega (arith, h.0, k.0)))
  where
    to : (x : ℕ) → ((x < a) × In s x) ⊎ ((x ≡ a) × In s x) → (x < suc a) × In s x
    to x (inl h) = (omega (arith, h.0), h.1)
    to x (inr h) = (omega (arith, h.0), h.1)

    from : (x : ℕ) → (x < suc a) × In s x → ((x < a) × In s x) ⊎ ((x ≡ a) × In s x)
    from x h =
        elim (dec_lt x a) [ yes l ↦ inl (l, h.1) | no l ↦ inr (omega (arith, l, h.0), h.1) ]

-- below one of them, they are all among
pub among_below : (s a : ℕ) → Among s a
    → HowMany (λ (x : ℕ). (x < a) × Among s x) (members_below_of s a)
among_below s a m = counts_iff (λ x h. (h.0, (omega (arith, h.0, m.0), h.1)))
    (λ x h. (h.0, h.1.1)) (members_count s a)

ones_digit : (b : ℕ) → b < 2 → ones b ≡ b
unfolding ones ones_in
ones_digit zero h = refl
ones_digit (suc zero) h = refl
ones_digit (suc (suc b)) h = absurd (omega arith)

pub ones_below : (s n : ℕ) → ones (s % 2 ^ n) ≡ members_below_of s n
unfolding members_below_of
ones_below s zero = rw (pow-zero 2, mod-one s) (ones_digit 0 (omega arith))
ones_below s (suc n) =
    ap (λ (z : ℕ). ones (s % 2 ^ z)) (let e : suc n ≡ 1 + n = omega arith in e)
    ∙ ap ones (mod-pow-add s 1 n)
    ∙ ones_cat n (s / 2 ^ n % 2) (s % 2 ^ n) (mod-lt s (pow_pos n))
    ∙ ap₂ ◌+◌ (ones_digit (s / 2 ^ n % 2) (digit_low s n)) (ones_below s n)
    ∙ add_comm (s / 2 ^ n % 2) (members_below_of s n)

-- the ones of the set count its members
pub among_count : (s : ℕ) → s < 2 ^ 64 → HowMany (Among s) (ones s)
among_count s h =
    let e : members_below_of s 64 ≡ ones s = sym (ones_below s 64) ∙ ap ones (mod-eq_of_lt h) in
    rw (← e) (members_count s 64)
