-- What the tests of offsets say.
use mathlib.Core.Path.{◌≡◌, refl, sym, ap, ◌∙◌}
use mathlib.Core.Bool.{Bool, true, false}
use Prim.Native.Nat.{ℕ, zero, suc, ◌+◌, ◌*◌, ◌/◌, ◌%◌, ◌^◌, ◌≤◌, ◌<◌}
use native.Mathlib.Omega.{arith}
use lib.Dec.{eqb}
use Rattle.sets.specs.Says.{Says}
use Rattle.sets.proofs.Says.{holds, fails, says_iff, says_eqb}
use Rattle.pairs.specs.Relations.{less, equal, more, Offset, beside, below, Tri}
use Rattle.pair_offsets.specs.Codes.{order_code, offset_code, offset_of}
use Rattle.pair_offsets.specs.Evens.{TriSays, Tris, SameSays}

-- 1. codes

pub code-of : (o : Offset) → offset_of (offset_code o) ≡ o
code-of beside = refl
code-of (below less) = refl
code-of (below equal) = refl
code-of (below more) = refl

pub of_code : (n : ℕ) → n ≤ 3 → offset_code (offset_of n) ≡ n
of_code zero h = refl
of_code (suc zero) h = refl
of_code (suc (suc zero)) h = refl
of_code (suc (suc (suc zero))) h = refl
of_code (suc (suc (suc (suc n)))) h = absurd (omega arith)

code_one : {x y : Offset} {a b : ℕ} → offset_code x ≡ a → offset_code y ≡ b → a ≡ b → x ≡ y
code_one {x} {y} p q e = sym (code-of x) ∙ ap offset_of (p ∙ e ∙ sym q) ∙ code-of y

one_code : {x y : Offset} {a b : ℕ} → offset_code x ≡ a → offset_code y ≡ b → x ≡ y → a ≡ b
one_code p q e = sym p ∙ ap offset_code e ∙ q

pub offset_low : (o : Offset) → offset_code o ≤ 3
offset_low beside = omega arith
offset_low (below less) = omega arith
offset_low (below equal) = omega arith
offset_low (below more) = omega arith

-- 2. the table of threes

abbrev threes : ℕ
threes = 9865280294883330273

tri_at : (x y z : Offset)
    → Says (eqb (threes / 2 ^ (16 * offset_code x + 4 * offset_code y + offset_code z) % 2) 1)
    (Tri x y z)
tri_at beside beside beside = holds refl
tri_at beside beside (below less) = fails (λ e. omega (arith, ap offset_code e))
tri_at beside beside (below equal) = fails (λ e. omega (arith, ap offset_code e))
tri_at beside beside (below more) = fails (λ e. omega (arith, ap offset_code e))
tri_at beside (below less) beside = fails (λ e. e)
tri_at beside (below less) (below less) = holds tt
tri_at beside (below less) (below equal) = holds tt
tri_at beside (below less) (below more) = holds tt
tri_at beside (below equal) beside = fails (λ e. e)
tri_at beside (below equal) (below less) = fails (λ e. omega (arith, ap order_code e))
tri_at beside (below equal) (below equal) = fails (λ e. omega (arith, ap order_code e))
tri_at beside (below equal) (below more) = holds refl
tri_at beside (below more) beside = fails (λ e. e)
tri_at beside (below more) (below less) = fails (λ e. omega (arith, ap order_code e))
tri_at beside (below more) (below equal) = fails (λ e. omega (arith, ap order_code e))
tri_at beside (below more) (below more) = holds refl
tri_at (below less) beside beside = fails (λ e. e)
tri_at (below less) beside (below less) = holds tt
tri_at (below less) beside (below equal) = holds tt
tri_at (below less) beside (below more) = holds tt
tri_at (below less) (below less) beside = fails (λ e. e)
tri_at (below less) (below less) (below less) = holds refl
tri_at (below less) (below less) (below equal) = fails (λ e. omega (arith, ap order_code e))
tri_at (below less) (below less) (below more) = fails (λ e. omega (arith, ap order_code e))
tri_at (below less) (below equal) beside = fails (λ e. e)
tri_at (below less) (below equal) (below less) = holds refl
tri_at (below less) (below equal) (below equal) = fails (λ e. omega (arith, ap order_code e))
tri_at (below less) (below equal) (below more) = fails (λ e. omega (arith, ap order_code e))
tri_at (below less) (below more) beside = fails (λ e. e)
tri_at (below less) (below more) (below less) = holds tt
tri_at (below less) (below more) (below equal) = holds tt
tri_at (below less) (below more) (below more) = holds tt
tri_at (below equal) beside beside = fails (λ e. e)
tri_at (below equal) beside (below less) = fails (λ e. omega (arith, ap order_code e))
tri_at (below equal) beside (below equal) = fails (λ e. omega (arith, ap order_code e))
tri_at (below equal) beside (below more) = holds refl
tri_at (below equal) (below less) beside = fails (λ e. e)
tri_at (below equal) (below less) (below less) = holds refl
tri_at (below equal) (below less) (below equal) = fails (λ e. omega (arith, ap order_code e))
tri_at (below equal) (below less) (below more) = fails (λ e. omega (arith, ap order_code e))
tri_at (below equal) (below equal) beside = fails (λ e. e)
tri_at (below equal) (below equal) (below less) = fails (λ e. omega (arith, ap order_code e))
tri_at (below equal) (below equal) (below equal) = holds refl
tri_at (below equal) (below equal) (below more) = fails (λ e. omega (arith, ap order_code e))
tri_at (below equal) (below more) beside = fails (λ e. e)
tri_at (below equal) (below more) (below less) = fails (λ e. omega (arith, ap order_code e))
tri_at (below equal) (below more) (below equal) = fails (λ e. omega (arith, ap order_code e))
tri_at (below equal) (below more) (below more) = holds refl
tri_at (below more) beside beside = fails (λ e. e)
tri_at (below more) beside (below less) = fails (λ e. omega (arith, ap order_code e))
tri_at (below more) beside (below equal) = fails (λ e. omega (arith, ap order_code e))
tri_at (below more) beside (below more) = holds refl
tri_at (below more) (below less) beside = fails (λ e. e)
tri_at (below more) (below less) (below less) = holds tt
tri_at (below more) (below less) (below equal) = holds tt
tri_at (below more) (below less) (below more) = holds tt
tri_at (below more) (below equal) beside = fails (λ e. e)
tri_at (below more) (below equal) (below less) = fails (λ e. omega (arith, ap order_code e))
tri_at (below more) (below equal) (below equal) = fails (λ e. omega (arith, ap order_code e))
tri_at (below more) (below equal) (below more) = holds refl
tri_at (below more) (below more) beside = fails (λ e. e)
tri_at (below more) (below more) (below less) = fails (λ e. omega (arith, ap order_code e))
tri_at (below more) (below more) (below equal) = fails (λ e. omega (arith, ap order_code e))
tri_at (below more) (below more) (below more) = holds refl

pub tri_says : (a b c : ℕ)
    → TriSays a b c (eqb (9865280294883330273 / 2 ^ (16 * a + 4 * b + c) % 2) 1)
tri_says a b c = record { says = λ x y z p q r. rw (← p, ← q, ← r) (tri_at x y z) }

-- 3. tokens that are one

pub same_one : (p q a b c : ℕ) → p ≡ q → a ≡ 0 → SameSays p q a b c (eqb b c)
same_one p q a b c h z =
    record {
      says = λ x y w i j k.
          says_iff (λ e g. (code_one {y = beside} i refl z, code_one j k e))
          (λ f. one_code j k (f h).1) (says_eqb b c);
    }

pub same_off : (p q a b c : ℕ) → p ≡ q → (a ≡ 0 → ⊥) → SameSays p q a b c false
same_off p q a b c h z =
    record { says = λ x y w i j k. fails (λ f. z (one_code {y = beside} i refl (f h).0)) }

pub same_two : (p q a b c : ℕ) → (p ≡ q → ⊥) → SameSays p q a b c true
same_two p q a b c h = record { says = λ x y w i j k. holds (λ e. absurd (h e)) }

-- 4. tokens that are three, by their order

module _ {p q r : ℕ} {x y z : Offset} {t : Bool} where
  pub tris_pqr : p < q → q < r → Says t (Tri x y z) → Says t (Tris p q r x y z)
  tris_pqr h k = says_iff (λ e. record {
    pqr = λ i j. e;
    prq = λ i j. absurd (omega arith);
    rpq = λ i j. absurd (omega arith);
    qpr =
        λ i j. absurd (omega arith);
    qrp = λ i j. absurd (omega arith);
    rqp =
        λ i j. absurd (omega arith);
  }) (λ e. e.pqr h k)

  pub tris_prq : p < r → r < q → Says t (Tri z y x) → Says t (Tris p q r x y z)
  tris_prq h k = says_iff (λ e. record {
    pqr = λ i j. absurd (omega arith);
    prq = λ i j. e;
    rpq = λ i j. absurd (omega arith);
    qpr =
        λ i j. absurd (omega arith);
    qrp = λ i j. absurd (omega arith);
    rqp =
        λ i j. absurd (omega arith);
  }) (λ e. e.prq h k)

  pub tris_rpq : r < p → p < q → Says t (Tri z x y) → Says t (Tris p q r x y z)
  tris_rpq h k = says_iff (λ e. record {
    pqr = λ i j. absurd (omega arith);
    prq = λ i j. absurd (omega arith);
    rpq = λ i j. e;
    qpr =
        λ i j. absurd (omega arith);
    qrp = λ i j. absurd (omega arith);
    rqp =
        λ i j. absurd (omega arith);
  }) (λ e. e.rpq h k)

  pub tris_qpr : q < p → p < r → Says t (Tri x z y) → Says t (Tris p q r x y z)
  tris_qpr h k = says_iff (λ e. record {
    pqr = λ i j. absurd (omega arith);
    prq = λ i j. absurd (omega arith);
    rpq = λ i j. absurd
        (omega arith);
    qpr = λ i j. e;
    qrp = λ i j. absurd (omega arith);
    rqp =
        λ i j. absurd (omega arith);
  }) (λ e. e.qpr h k)

  pub tris_qrp : q < r → r < p → Says t (Tri y z x) → Says t (Tris p q r x y z)
  tris_qrp h k = says_iff (λ e. record {
    pqr = λ i j. absurd (omega arith);
    prq = λ i j. absurd (omega arith);
    rpq = λ i j. absurd
        (omega arith);
    qpr = λ i j. absurd (omega arith);
    qrp = λ i j. e;
    rqp =
        λ i j. absurd (omega arith);
  }) (λ e. e.qrp h k)

  pub tris_rqp : r < q → q < p → Says t (Tri y x z) → Says t (Tris p q r x y z)
  tris_rqp h k = says_iff (λ e. record {
    pqr = λ i j. absurd (omega arith);
    prq = λ i j. absurd (omega arith);
    rpq = λ i j. absurd
        (omega arith);
    qpr = λ i j. absurd (omega arith);
    qrp = λ i j. absurd (omega arith);
    rqp =
        λ i j. e;
  }) (λ e. e.rqp h k)

pub tris_none₁ : {p q r : ℕ} {x y z : Offset} → p ≡ q → Says true (Tris p q r x y z)
tris_none₁ h = holds (record {
  pqr = λ i j. absurd (omega arith);
  prq = λ i j. absurd (omega arith);
  rpq = λ i j. absurd (omega arith);
  qpr = λ i j. absurd (omega arith);
  qrp =
      λ i j. absurd (omega arith);
  rqp = λ i j. absurd (omega arith);
})

pub tris_none₂ : {p q r : ℕ} {x y z : Offset} → q ≡ r → Says true (Tris p q r x y z)
tris_none₂ h = holds (record {
  pqr = λ i j. absurd (omega arith);
  prq = λ i j. absurd (omega arith);
  rpq = λ i j. absurd (omega arith);
  qpr = λ i j. absurd (omega arith);
  qrp =
      λ i j. absurd (omega arith);
  rqp = λ i j. absurd (omega arith);
})

pub tris_none₃ : {p q r : ℕ} {x y z : Offset} → p ≡ r → Says true (Tris p q r x y z)
tris_none₃ h = holds (record {
  pqr = λ i j. absurd (omega arith);
  prq = λ i j. absurd (omega arith);
  rpq = λ i j. absurd (omega arith);
  qpr = λ i j. absurd (omega arith);
  qrp =
      λ i j. absurd (omega arith);
  rqp = λ i j. absurd (omega arith);
})
