-- Laws of counts that go to two.
use mathlib.Core.Path.{◌≡◌, subst}
use mathlib.Core.Logic.{◌⊎◌, inl, inr}
use Prim.Native.Nat.{ℕ, ◌+◌, ◌-◌, ◌≤◌, ◌<◌}
use native.Mathlib.Omega.{arith}
use native.Mathlib.Decide.{dec_lt}
use lib.Bits.{bit_and}
use Rattle.sets.specs.Sets.{In}
use Rattle.sets.proofs.Sets.{in_zero}
use Rattle.cuts.proofs.Bits.{in_word, one_bit, two_bits}
use Rattle.contained_spans.specs.Counting.{CountTells, Plus}

-- the same of what corresponds
pub tells_as : {X Y : Type 0} {P : X → Type 0} {Q : Y → Type 0} {r : ℕ} (f : X → Y) (h : Y → X)
    → ((x : X) → P x → Q (f x)) → ((y : Y) → Q y → P (h y))
    → ((x y : X) → P x → P y → f x ≡ f y → x ≡ y) → ((x y : Y) → Q x → Q y → h x ≡ h y → x ≡ y)
    → CountTells P r → CountTells Q r
tells_as f h to back inj jni t = record {
  few = t.few;
  present = λ l. let p = t.present l in (f p.0, to p.0 p.1);
  absent = λ e y q. t.absent e (h y) (back y q);
  more = λ l.
      let p = t.more l in (
        f p.0,
        f p.1,
        to p.0 p.2,
        to p.1 p.3,
        λ e. p.4 (inj p.0 p.1 p.2 p.3 e),
      );
  once = λ l x y p q. jni x y p q (t.once l (h x) (h y) (back x p) (back y q));
}

-- the same predicate said otherwise
pub tells_same : {X : Type 0} {P Q : X → Type 0} {r : ℕ} → ((x : X) → P x → Q x)
    → ((x : X) → Q x → P x) → CountTells P r → CountTells Q r
tells_same to back = tells_as (λ x. x) (λ x. x) to back (λ x y p q e. e) (λ x y p q e. e)

-- none
pub tells_none : {X : Type 0} {P : X → Type 0} → ((x : X) → P x → ⊥) → CountTells P 0
tells_none f = record {
  few = omega arith;
  present = λ l. absurd (omega arith);
  absent = λ e. f;
  more = λ l. absurd (omega arith);
  once = λ l x y p q. absurd (f x p);
}

-- one
pub tells_one : {X : Type 0} {P : X → Type 0} (x : X) → P x → ((y z : X) → P y → P z → y ≡ z)
    → CountTells P 1
tells_one x p f = record {
  few = omega arith;
  present = λ l. (x, p);
  absent = λ e. absurd (omega arith);
  more = λ l. absurd (omega arith);
  once = λ l. f;
}

-- two
tells_two : {X : Type 0} {P : X → Type 0} (x y : X) → P x → P y → (x ≡ y → ⊥) → CountTells P 2
tells_two x y p q n = record {
  few = omega arith;
  present = λ l. (x, p);
  absent = λ e. absurd (omega arith);
  more = λ l. (x, y, p, q, n);
  once = λ l. absurd (omega arith);
}

pub plus_few : {a b r : ℕ} → Plus a b r → r ≤ 2
plus_few {a} {b} {r} s = go (dec_lt (a + b) 2)
  where
    go : Dec (a + b < 2) → r ≤ 2
    go (yes h) = omega (arith, s.less h)
    go (no h) = omega (arith, s.many (omega arith))

-- together
module _ {X : Type 0} {P Q : X → Type 0} (a b r : ℕ) (part : (x : X) → P x → Q x → ⊥)
    (s : Plus a b r) (t : CountTells P a) (u : CountTells Q b) where
  large : 1 < r → (1 < a) ⊎ ((1 < b) ⊎ ((0 < a) × (0 < b)))
  large l = go (dec_lt 1 a) (dec_lt 1 b)
    where
      go : Dec (1 < a) → Dec (1 < b) → (1 < a) ⊎ ((1 < b) ⊎ ((0 < a) × (0 < b)))
      go (yes h) d = inl h
      go (no h) (yes k) = inr (inl k)
      go (no h) (no k) = inr (inr (cut (dec_lt (a + b) 2)))
        where
          cut : Dec (a + b < 2) → (0 < a) × (0 < b)
          cut (yes m) = absurd (omega (arith, s.less m))
          cut (no m) = (omega arith, omega arith)

  small : r < 2 → (a < 2) × (b < 2) × (a + b < 2)
  small l = go (dec_lt (a + b) 2)
    where
      go : Dec (a + b < 2) → (a < 2) × (b < 2) × (a + b < 2)
      go (yes h) = (omega arith, omega arith, h)
      go (no h) = absurd (omega (arith, s.many (omega arith)))

  pos : 0 < r → (0 < a) ⊎ (0 < b)
  pos l = go (dec_lt 0 a)
    where
      go : Dec (0 < a) → (0 < a) ⊎ (0 < b)
      go (yes h) = inl h
      go (no h) = inr (back (dec_lt 0 b))
        where
          back : Dec (0 < b) → 0 < b
          back (yes k) = k
          back (no k) = absurd (omega (arith, s.less (omega arith)))

  either : (0 < a) ⊎ (0 < b) → (x : X) × (P x ⊎ Q x)
  either (inl h) = let p = t.present h in (p.0, inl p.1)
  either (inr h) = let p = u.present h in (p.0, inr p.1)

  twice : (1 < a) ⊎ ((1 < b) ⊎ ((0 < a) × (0 < b)))
      → (x : X) × (y : X) × (P x ⊎ Q x) × (P y ⊎ Q y) × (x ≡ y → ⊥)
  twice (inl h) = let p = t.more h in (p.0, p.1, inl p.2, inl p.3, p.4)
  twice (inr (inl h)) = let p = u.more h in (p.0, p.1, inr p.2, inr p.3, p.4)
  twice (inr (inr h)) =
      let p = t.present h.0 in
      let q = u.present h.1 in (
        p.0,
        q.0,
        inl p.1,
        inr q.1,
        λ e. part q.0 (subst P e p.1) q.1,
      )

  nothing : r ≡ 0 → (a ≡ 0) × (b ≡ 0)
  nothing e = let h = small (omega arith) in
      (omega (arith, s.less h.2), omega (arith, s.less h.2))

  least_a : (x : X) → P x → 0 < a
  least_a x p = go (dec_lt 0 a)
    where
      go : Dec (0 < a) → 0 < a
      go (yes h) = h
      go (no h) = absurd (t.absent (let e : a ≡ 0 = omega arith in e) x p)

  least_b : (x : X) → Q x → 0 < b
  least_b x q = go (dec_lt 0 b)
    where
      go : Dec (0 < b) → 0 < b
      go (yes h) = h
      go (no h) = absurd (u.absent (let e : b ≡ 0 = omega arith in e) x q)

  once : r < 2 → (x y : X) → P x ⊎ Q x → P y ⊎ Q y → x ≡ y
  once l x y (inl p) (inl q) = t.once (small l).0 x y p q
  once l x y (inr p) (inr q) = u.once (small l).1 x y p q
  once l x y (inl p) (inr q) = absurd (omega (arith, (small l).2, least_a x p, least_b y q))
  once l x y (inr p) (inl q) = absurd (omega (arith, (small l).2, least_a y q, least_b x p))

  none : r ≡ 0 → (x : X) → P x ⊎ Q x → ⊥
  none e x (inl p) = t.absent (nothing e).0 x p
  none e x (inr q) = u.absent (nothing e).1 x q

  pub tells_sum : CountTells (λ (x : X). P x ⊎ Q x) r
  tells_sum = record {
    few = plus_few s;
    present = λ l. either (pos l);
    absent = none;
    more = λ l. twice (large l);
    once = once;
  }

-- ---- the members of a word

pub word_none : (w : ℕ) → w ≡ 0 → CountTells (In w) 0
word_none w e = tells_none (λ c i. in_zero c (in_word e i))

pub word_one : (w : ℕ) → (w ≡ 0 → ⊥) → bit_and w (w - 1) ≡ 0 → CountTells (In w) 1
word_one w n e = let q = one_bit w (omega arith) e in
    tells_one q.0 q.1 (λ y z p s. both y z q.0 (q.2 y p) (q.2 z s))
  where
    both : (y z k : ℕ) → y ≡ k → z ≡ k → y ≡ z
    both y z k e f = omega arith

pub word_two : (w : ℕ) → (w ≡ 0 → ⊥) → (bit_and w (w - 1) ≡ 0 → ⊥) → CountTells (In w) 2
word_two w n e = let q = two_bits w (omega arith) e in tells_two q.0 q.1 q.2 q.3 q.4
