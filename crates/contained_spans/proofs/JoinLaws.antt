-- Laws of words with members put in.
use mathlib.Core.Path.{◌≡◌, refl, sym, ap, ◌∙◌, subst}
use mathlib.Core.Logic.{◌↔◌}
use Prim.Native.Nat.{ℕ, zero, suc, ◌/◌, ◌%◌, ◌^◌, ◌<◌}
use native.Mathlib.Omega.{arith}
use native.Mathlib.Decide.{ℕ_discrete}
use native.Mathlib.Nat.{mod-lt}
use lib.Bits.{bit_and, bit_xor, xor_step, xor_shr, differ}
use lib.Arith.{digits_mod}
use Rattle.sets.proofs.Bits.{in_and}
use Rattle.sets.specs.Sets.{In}
use Rattle.sets.proofs.Sets.{in_zero, insert_same, insert_ge}
use Rattle.sets.specs.Insertion.{insert}

-- a set that gets a new member gets larger
pub insert_more : (s a : ℕ) → (In s a → ⊥) → s < insert s a
insert_more s a n = go (ℕ_discrete s (insert s a))
  where
    go : Dec (s ≡ insert s a) → s < insert s a
    go (yes e) = absurd (n (subst (λ (x : ℕ). In x a) (sym e) (insert_same s a)))
    go (no e) = omega (arith, insert_ge s a, e)

-- ---- a member of one set and not of another

xor_digit : (x y c : ℕ) → bit_xor x y / 2 ^ c % 2 ≡ differ (x / 2 ^ c % 2) (y / 2 ^ c % 2)
xor_digit x y c = ap (λ (n : ℕ). n % 2) (xor_shr x y c ∙ xor_step (x / 2 ^ c) (y / 2 ^ c))
    ∙ digits_mod _ (small (x / 2 ^ c % 2) (y / 2 ^ c % 2) (mod-lt (x / 2 ^ c) (omega arith))
    (mod-lt (y / 2 ^ c) (omega arith)))
  where
    small : (a b : ℕ) → a < 2 → b < 2 → differ a b < 2
    small zero b h k = k
    small (suc zero) zero h k = omega arith
    small (suc zero) (suc zero) h k = omega arith
    small (suc (suc a)) b h k = absurd (omega arith)
    small (suc zero) (suc (suc b)) h k = absurd (omega arith)

pub in_less : (x y c : ℕ) → In (bit_and x (bit_xor x y)) c ↔ (In x c × (In y c → ⊥))
in_less x y c = (
  λ h. let a = (in_and x (bit_xor x y) c).0 h in (
    a.0,
    λ b. let e : differ (x / 2 ^ c % 2) (y / 2 ^ c % 2) ≡ 1 = sym (xor_digit x y c)
        ∙ a.1.digit in clash (x / 2 ^ c % 2) (y / 2 ^ c % 2) a.0.digit b.digit e,
  ),
  λ p. (in_and x (bit_xor x y) c).1 (
    p.0,
    record {
      digit = xor_digit x y c ∙ apart (x / 2 ^ c % 2) (y / 2 ^ c % 2) p.0.digit
          (mod-lt (y / 2 ^ c) (omega arith)) (λ e. p.1 (record { digit = e }));
    },
  ),
)
  where
    clash : (a b : ℕ) → a ≡ 1 → b ≡ 1 → differ a b ≡ 1 → ⊥
    clash zero b e f g = omega arith
    clash (suc a) zero e f g = omega arith
    clash (suc zero) (suc zero) e f g = omega arith
    clash (suc zero) (suc (suc b)) e f g = omega arith
    clash (suc (suc a)) (suc b) e f g = omega arith

    apart : (a b : ℕ) → a ≡ 1 → b < 2 → (b ≡ 1 → ⊥) → differ a b ≡ 1
    apart zero b e h f = omega arith
    apart (suc zero) zero e h f = refl
    apart (suc zero) (suc zero) e h f = absurd (f refl)
    apart (suc zero) (suc (suc b)) e h f = absurd (omega arith)
    apart (suc (suc a)) b e h f = omega arith

pub none_less : (x y : ℕ) → bit_and x (bit_xor x y) ≡ 0 → (c : ℕ) → In x c → In y c
none_less x y e c h = go (ℕ_discrete (y / 2 ^ c % 2) 1)
  where
    go : Dec (y / 2 ^ c % 2 ≡ 1) → In y c
    go (yes z) = record { digit = z }
    go (no z) =
        absurd (in_zero c (subst (λ (s : ℕ). In s c) e ((in_less x y c).1 (h, λ b. z b.digit))))
