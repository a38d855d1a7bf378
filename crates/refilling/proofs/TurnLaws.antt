-- Turning a bit over in the words for the members of a set, the least member first; and what that
-- says of words whose bit said what a pair has.
use mathlib.Core.Path.{◌≡◌, refl, sym, ap, ap₂, ◌∙◌, subst}
use mathlib.Core.List.{List}
use mathlib.Core.Logic.{⊎_elim, ◌↔◌}
use Prim.Native.Nat.{ℕ, zero, suc, ◌+◌, ◌-◌, ◌*◌, ◌/◌, ◌%◌, ◌^◌, ◌<◌}
use native.Mathlib.Omega.{arith}
use native.Mathlib.Nat.{one-mul, mod-eq_of_lt}
use native.Mathlib.Decide.{ℕ_discrete}
use lib.Bits.{bit_and, bit_xor, differ, xor_step, xor_shr, xor_lt}
use lib.Arith.{digits_mod}
use lib.Pow.{pow-lt}
use lib.ListN.{length, get_or, set, length-set}
use lib.Seq.{get_or-set_same, get_or-set_other}
use Rattle.sets.specs.Sets.{In}
use Rattle.sets.specs.Insertion.{insert}
use Rattle.sets.proofs.Sets.{in_dec, in_zero, insert_same, insert_only}
use Rattle.sets.proofs.Bits.{below_two}
use Rattle.cuts.specs.declared.Pair.{Pair}
use Rattle.cuts.specs.Puts.{Least}
use Rattle.cuts.proofs.Bits.{in_word}
use Rattle.cuts.proofs.PutLaws.{in_below}
use Rattle.refilling.specs.Turning.{flip, Turning, TurnBits, HasBits, Turned}

-- ---- what `xor` has

differ_lt : (a b : ℕ) → a < 2 → b < 2 → differ a b < 2
differ_lt zero b h k = k
differ_lt (suc a) zero h k = h
differ_lt (suc zero) (suc b) h k = omega arith
differ_lt (suc (suc a)) (suc b) h k = absurd (omega arith)

xor_odd : (x y : ℕ) → bit_xor x y % 2 ≡ differ (x % 2) (y % 2)
xor_odd x y =
    ap (λ (n : ℕ). n % 2) (xor_step x y)
    ∙ digits_mod (bit_xor (x / 2) (y / 2)) (differ_lt (x % 2) (y % 2) (below_two x) (below_two y))

no_digit : (x c : ℕ) → (In x c → ⊥) → x / 2 ^ c % 2 ≡ 0
no_digit x c n = go (ℕ_discrete (x / 2 ^ c % 2) 1)
  where
    go : Dec (x / 2 ^ c % 2 ≡ 1) → x / 2 ^ c % 2 ≡ 0
    go (yes e) = absurd (n (record { digit = e }))
    go (no e) = let h = below_two (x / 2 ^ c) in omega arith

digits_are : (x y c a b : ℕ) → x / 2 ^ c % 2 ≡ a → y / 2 ^ c % 2 ≡ b
    → bit_xor x y / 2 ^ c % 2 ≡ differ a b
digits_are x y c a b e f =
    ap (λ (n : ℕ). n % 2) (xor_shr x y c) ∙ xor_odd (x / 2 ^ c) (y / 2 ^ c) ∙ ap₂ differ e f

-- both have it
pub xor_both : (x y c : ℕ) → In x c → In y c → In (bit_xor x y) c → ⊥
xor_both x y c i j h =
    let z : ◌≡◌ {A = ℕ} 0 1 = sym (digits_are x y c 1 1 i.digit j.digit) ∙ h.digit in
    omega arith

-- neither has
pub xor_neither : (x y c : ℕ) → (In x c → ⊥) → (In y c → ⊥) → In (bit_xor x y) c → ⊥
xor_neither x y c i j h =
    let z : ◌≡◌ {A = ℕ} 0 1 = sym (digits_are x y c 0 0 (no_digit x c i) (no_digit y c j))
    ∙ h.digit in
    omega arith

-- one of them has
pub xor_first : (x y c : ℕ) → In x c → (In y c → ⊥) → In (bit_xor x y) c
xor_first x y c i j = record { digit = digits_are x y c 1 0 i.digit (no_digit y c j) }

pub xor_second : (x y c : ℕ) → (In x c → ⊥) → In y c → In (bit_xor x y) c
xor_second x y c i j = record { digit = digits_are x y c 0 1 (no_digit x c i) j.digit }

-- ---- a bit turned over

alone : (c k : ℕ) → In (2 ^ c) k → k ≡ c
unfolding insert
alone c k i = ⊎_elim (λ z. absurd (in_zero k z)) (λ z. z) (insert_only 0 c k i)

itself : (c : ℕ) → In (2 ^ c) c
unfolding insert
itself c = insert_same 0 c

pub flip_other : (w c k : ℕ) → (k ≡ c → ⊥) → In (flip w c) k ↔ In w k
flip_other w c k n = (λ i. go i (in_dec w k), λ i. xor_first w (2 ^ c) k i (λ j. n (alone c k j)))
  where
    go : In (flip w c) k → Dec (In w k) → In w k
    go i (yes h) = h
    go i (no h) = absurd (xor_neither w (2 ^ c) k h (λ j. n (alone c k j)) i)

pub flip_off : (w c : ℕ) → In w c → In (flip w c) c → ⊥
flip_off w c i h = xor_both w (2 ^ c) c i (itself c) h

pub flip_on : (w c : ℕ) → (In w c → ⊥) → In (flip w c) c
flip_on w c i = xor_second w (2 ^ c) c i (itself c)

-- what `w ^ (1 << c)` computes
pub flip_shl : (w c : ℕ) → c < 64 → bit_xor w ((1 * 2 ^ c) % 2 ^ 64) ≡ flip w c
flip_shl w c l =
    ap (bit_xor w) (ap (λ (x : ℕ). x % 2 ^ 64) (one-mul (2 ^ c)) ∙ mod-eq_of_lt (pow-lt l))

-- ---- bit by bit

pub turning_none : (ws : List ℕ) (p s c : ℕ) → Turning ws ws p s c s
turning_none ws p s c =
    record { size = refl; subset = λ a i. i; here = λ a i n. absurd (n i); else = λ q n. refl }

pub turning_more : {ws ws' : List ℕ} {p s c left r : ℕ} (v : ℕ) → Least left r
    → p + 2 * r < length ws' → v ≡ flip (get_or ws' (p + 2 * r) 0) c → Turning ws ws' p s c left
    → Turning ws (set ws' (p + 2 * r) v) p s c (bit_and left (left - 1))
turning_more {ws} {ws'} {p} {s} {c} {left} {r} v l room e t = record {
  size = length-set ws' (p + 2 * r) v ∙ t.size;
  subset = λ a i. t.subset a ((l.others a).0 i).0;
  here = λ a i n. here a i n (ℕ_discrete a r);
  else = λ q n.
      get_or-set_other ws' (p + 2 * r) q v 0
      (n r (t.subset r l.member) (λ i. ((l.others r).0 i).1 refl))
      ∙ t.else q (λ a i o z. n a i (λ j. o ((l.others a).0 j).0) z);
}
  where
    fresh : get_or ws' (p + 2 * r) 0 ≡ get_or ws (p + 2 * r) 0
    fresh = t.else (p + 2 * r) (λ a i o z. o
        (subst (In left) (let y : r ≡ a = omega arith in y) l.member))

    here : (a : ℕ) → In s a → (In (bit_and left (left - 1)) a → ⊥) → Dec (a ≡ r)
        → get_or (set ws' (p + 2 * r) v) (p + 2 * a) 0 ≡ flip (get_or ws (p + 2 * a) 0) c
    here a i n (yes z) =
        subst (λ (x : ℕ). get_or (set ws' (p + 2 * r) v) (p + 2 * x) 0
        ≡ flip (get_or ws (p + 2 * x) 0) c) (sym z)
        (get_or-set_same ws' (p + 2 * r) v 0 room ∙ e ∙ ap (λ (x : ℕ). flip x c) fresh)
    here a i n (no z) =
        get_or-set_other ws' (p + 2 * r) (p + 2 * a) v 0 (λ y. z (omega arith))
        ∙ t.here a i (λ j. n ((l.others a).1 (j, z)))

pub turning_done : {ws ws' : List ℕ} {p s c left : ℕ} → left ≡ 0 → Turning ws ws' p s c left
    → TurnBits ws ws' p s c
turning_done {ws} {ws'} {p} {s} {c} {left} e t = record
    { size = t.size; here = λ a i. t.here a i (gone a); else = λ q n. t.else q (λ a i o. n a i) }
  where
    gone : (a : ℕ) → In left a → ⊥
    gone a i = in_zero a (in_word e i)

-- ---- a word, and both words of each pair

module _ {ws ws' : List ℕ} {p c : ℕ} (o n : ℕ) (t : TurnBits ws ws' p (bit_xor o n) c)
    (A : ℕ) where
  as_was : (In (bit_xor o n) A → ⊥) → get_or ws' (p + 2 * A) 0 ≡ get_or ws (p + 2 * A) 0
  as_was f = t.else (p + 2 * A) (λ a i z. f
      (subst (In (bit_xor o n)) (let y : a ≡ A = omega arith in y) i))

  -- the other bits are as they were
  word_other : (k : ℕ) → (k ≡ c → ⊥)
      → In (get_or ws' (p + 2 * A) 0) k ↔ In (get_or ws (p + 2 * A) 0) k
  word_other k d = go (in_dec (bit_xor o n) A)
    where
      go : Dec (In (bit_xor o n) A)
          → In (get_or ws' (p + 2 * A) 0) k ↔ In (get_or ws (p + 2 * A) 0) k
      go (yes i) =
          let e = t.here A i in
          let q = flip_other (get_or ws (p + 2 * A) 0) c k d in
          (λ h. q.0 (in_word e h), λ h. in_word (sym e) (q.1 h))
      go (no i) = let e = as_was i in (in_word e, in_word (sym e))

  -- the bit c said what o has, and says what n has
  word_has : In (get_or ws (p + 2 * A) 0) c ↔ In o A → In (get_or ws' (p + 2 * A) 0) c ↔ In n A
  word_has b = go (in_dec o A) (in_dec n A)
    where
      go : Dec (In o A) → Dec (In n A) → In (get_or ws' (p + 2 * A) 0) c ↔ In n A
      go (yes x) (yes y) =
          let e = as_was (xor_both o n A x y) in
          (λ h. y, λ h. in_word (sym e) (b.1 x))
      go (no x) (no y) =
          let e = as_was (xor_neither o n A x y) in
          (λ h. absurd (x (b.0 (in_word e h))), λ h. absurd (y h))
      go (yes x) (no y) =
          let e = t.here A (xor_first o n A x y) in (
            λ h. absurd (flip_off (get_or ws (p + 2 * A) 0) c (b.1 x) (in_word e h)),
            λ h. absurd
                (y h),
          )
      go (no x) (yes y) =
          let e = t.here A (xor_second o n A x y) in
          (λ h. y, λ h. in_word (sym e) (flip_on (get_or ws (p + 2 * A) 0) c (λ j. x (b.0 j))))

pub pair_turned : {ws ws₁ ws₂ : List ℕ} {p c : ℕ} (old new : Pair) → old.one < 2 ^ 64
    → old.two < 2 ^ 64 → new.one < 2 ^ 64 → new.two < 2 ^ 64 → HasBits ws p old c
    → TurnBits ws ws₁ p (bit_xor old.one new.one) c
    → TurnBits ws₁ ws₂ (p + 1) (bit_xor old.two new.two) c → Turned ws ws₂ p new c
pair_turned {ws} {ws₁} {ws₂} {p} {c} old new x y u v b f g = record {
  size = g.size ∙ f.size;
  has = record {
    once = λ A h.
        let q = word_has old.one new.one f A (b.once A h) in
        let e = one_as A in
        (λ i. q.0 (in_word e i), λ i. in_word (sym e) (q.1 i));
    twice = λ A h. two_at A (λ (z : ℕ). In z c ↔ In new.two A)
        (word_has old.two new.two g A
        (two_of A (λ (z : ℕ). In z c ↔ In old.two A) (b.twice A h)));
  };
  once = λ A k h d.
      let q = word_other old.one new.one f A k d in
      let e = one_as A in
      (λ i. q.0 (in_word e i), λ i. in_word (sym e) (q.1 i));
  twice = λ A k h d. two_at A (λ (z : ℕ). In z k ↔ In (get_or ws (p + 2 * A + 1) 0) k)
      (two_from A (λ (z : ℕ). In (get_or ws₂ (p + 1 + 2 * A) 0) k ↔ In z k)
      (word_other old.two new.two g A k d));
  else = λ q o.
      g.else q (λ a i z. let l = in_below (bit_xor old.two new.two) a (xor_lt 64 _ _ y v) i in
      ⊎_elim (λ u. omega arith) (λ u. omega arith) o)
      ∙ f.else q (λ a i z. let l = in_below (bit_xor old.one new.one) a (xor_lt 64 _ _ x u) i
      in ⊎_elim (λ u. omega arith) (λ u. omega arith) o);
}
  where
    one_as : (A : ℕ) → get_or ws₂ (p + 2 * A) 0 ≡ get_or ws₁ (p + 2 * A) 0
    one_as A = g.else (p + 2 * A) (λ a i z. omega arith)

    two_as : (A : ℕ) → get_or ws₁ (p + 2 * A + 1) 0 ≡ get_or ws (p + 2 * A + 1) 0
    two_as A = f.else (p + 2 * A + 1) (λ a i z. omega arith)

    place : (A : ℕ) → p + 1 + 2 * A ≡ p + 2 * A + 1
    place A = omega arith

    two_at : (A : ℕ) (P : ℕ → Type 0) → P (get_or ws₂ (p + 1 + 2 * A) 0)
        → P (get_or ws₂ (p + 2 * A + 1) 0)
    two_at A P h = subst (λ (z : ℕ). P (get_or ws₂ z 0)) (place A) h

    two_of : (A : ℕ) (P : ℕ → Type 0) → P (get_or ws (p + 2 * A + 1) 0)
        → P (get_or ws₁ (p + 1 + 2 * A) 0)
    two_of A P h =
        subst (λ (z : ℕ). P (get_or ws₁ z 0)) (sym (place A)) (subst P (sym (two_as A)) h)

    two_from : (A : ℕ) (P : ℕ → Type 0) → P (get_or ws₁ (p + 1 + 2 * A) 0)
        → P (get_or ws (p + 2 * A + 1) 0)
    two_from A P h = subst P (two_as A) (subst (λ (z : ℕ). P (get_or ws₁ z 0)) (place A) h)
