-- The points of a setting by their ranks: below 6, and ordered as before.
use mathlib.Core.Path.{◌≡◌, refl, sym, ap, ◌∙◌}
use mathlib.Core.List.{List, [], ◌∷◌, Memᴰ}
use mathlib.Core.Bool.{Bool, true, false}
use Prim.Native.Nat.{ℕ, suc, ◌≤◌, ◌<◌}
use native.Mathlib.Omega.{arith}
use native.Mathlib.Decide.{dec_lt}
use lib.Dec.{ltb}
use lib.ListN.{length}
use borrow.Author.Tests.{lt-ltb, le-ltb}
use Rattle.pairs.specs.Relations.{less, equal, more, order, Offset}
use Rattle.pairs.specs.Settings.{Corner, start₁, cut₁, start₂, cut₂, Point, at, stop₁, stop₂}
use Rattle.pairs.specs.Settings.{setting}
use Rattle.pair_steps.specs.Ranks.{bump, lower, numbers_of, Ranked}
use Rattle.pairs.proofs.OffsetLaws.{is_order}

bump_le : (a x y m n : ℕ) → x ≤ y → m ≤ n → bump (ltb a x) m ≤ bump (ltb a y) n
bump_le a x y m n h k = by (dec_lt a x) (dec_lt a y)
  where
    by : Dec (a < x) → Dec (a < y) → bump (ltb a x) m ≤ bump (ltb a y) n
    by (yes p) (yes q) = rw (lt-ltb a x p, lt-ltb a y q) (omega arith)
    by (yes p) (no q) = absurd (omega arith)
    by (no p) (yes q) = rw (le-ltb a x (omega arith), lt-ltb a y q) (omega arith)
    by (no p) (no q) = rw (le-ltb a x (omega arith), le-ltb a y (omega arith)) k

bump_lt : (a x y m n : ℕ) → x ≤ y → m < n → bump (ltb a x) m < bump (ltb a y) n
bump_lt a x y m n h k = by (dec_lt a x) (dec_lt a y)
  where
    by : Dec (a < x) → Dec (a < y) → bump (ltb a x) m < bump (ltb a y) n
    by (yes p) (yes q) = rw (lt-ltb a x p, lt-ltb a y q) (omega arith)
    by (yes p) (no q) = absurd (omega arith)
    by (no p) (yes q) = rw (le-ltb a x (omega arith), lt-ltb a y q) (omega arith)
    by (no p) (no q) = rw (le-ltb a x (omega arith), le-ltb a y (omega arith)) k

bump_most : (b : Bool) (m n : ℕ) → m ≤ n → bump b m ≤ suc n
bump_most true m n h = omega arith
bump_most false m n h = omega arith

bump_few : (b : Bool) (m n : ℕ) → m < n → bump b m < suc n
bump_few true m n h = omega arith
bump_few false m n h = omega arith

lower_le : (l : List ℕ) (x y : ℕ) → x ≤ y → lower l x ≤ lower l y
lower_le [] x y h = omega arith
lower_le (a ∷ l) x y h = bump_le a x y (lower l x) (lower l y) h (lower_le l x y h)

lower_lt : (l : List ℕ) (x y : ℕ) → x < y → Memᴰ x l → lower l x < lower l y
lower_lt [] x y h x4 = elim x4 [ ]
lower_lt (a ∷ l) x y h (Memᴰ.head e) = rw (le-ltb a x (omega arith), lt-ltb a y (omega arith))
    (omega (arith, lower_le l x y (omega arith)))
lower_lt (a ∷ l) x y h (Memᴰ.tail m) =
    bump_lt a x y (lower l x) (lower l y) (omega arith) (lower_lt l x y h m)

lower_most : (l : List ℕ) (x : ℕ) → lower l x ≤ length l
lower_most [] x = omega arith
lower_most (a ∷ l) x = bump_most (ltb a x) (lower l x) (length l) (lower_most l x)

lower_few : (l : List ℕ) (x : ℕ) → Memᴰ x l → lower l x < length l
lower_few [] x x3 = elim x3 [ ]
lower_few (a ∷ l) x (Memᴰ.head e) =
    rw (le-ltb a x (omega arith)) (omega (arith, lower_most l x))
lower_few (a ∷ l) x (Memᴰ.tail m) = bump_few (ltb a x) (lower l x) (length l) (lower_few l x m)

member : (f : Point → ℕ) (p : Point) → Memᴰ (f p) (numbers_of f)
member f (at start₁) = Memᴰ.head refl
member f (at cut₁) = Memᴰ.tail (Memᴰ.head refl)
member f (at start₂) = Memᴰ.tail (Memᴰ.tail (Memᴰ.head refl))
member f (at cut₂) = Memᴰ.tail (Memᴰ.tail (Memᴰ.tail (Memᴰ.head refl)))
member f stop₁ =
    Memᴰ.tail (Memᴰ.tail (Memᴰ.tail (Memᴰ.tail (Memᴰ.head refl))))
member f stop₂ = Memᴰ.tail
    (Memᴰ.tail (Memᴰ.tail (Memᴰ.tail (Memᴰ.tail (Memᴰ.head refl)))))

-- points that have their ranks for numbers
pub ranked_by : (f : Point → ℕ) → ((p : Point) → lower (numbers_of f) (f p) ≡ f p) → Ranked f
ranked_by f e =
    record {
      small = λ p. omega (arith, e p, lower_few (numbers_of f) (f p) (member f p));
      rank = e;
    }

module _ (f : Point → ℕ) where
  pub ranks : Point → ℕ
  ranks p = lower (numbers_of f) (f p)

  up : (p q : Point) → f p < f q → ranks p < ranks q
  unfolding ranks
  up p q h = lower_lt (numbers_of f) (f p) (f q) h (member f p)

  pub same : (p q : Point) → f p ≡ f q → ranks p ≡ ranks q
  unfolding ranks
  same p q e = ap (lower (numbers_of f)) e

  pub back : (p q : Point) → ranks p ≡ ranks q → f p ≡ f q
  back p q e = by (dec_lt (f p) (f q)) (dec_lt (f q) (f p))
    where
      by : Dec (f p < f q) → Dec (f q < f p) → f p ≡ f q
      by (yes h) d = absurd (omega (arith, up p q h))
      by (no h) (yes k) = absurd (omega (arith, up q p k))
      by (no h) (no k) = omega arith

  pub keeps_order : (p q : Point) → order (f p) (f q) ≡ order (ranks p) (ranks q)
  keeps_order p q = by (dec_lt (f p) (f q)) (dec_lt (f q) (f p))
    where
      by : Dec (f p < f q) → Dec (f q < f p) → order (f p) (f q) ≡ order (ranks p) (ranks q)
      by (yes h) d =
          is_order less (f p) (f q) h ∙ sym (is_order less (ranks p) (ranks q) (up p q h))
      by (no h) (yes k) =
          is_order more (f p) (f q) k ∙ sym (is_order more (ranks p) (ranks q) (up q p k))
      by (no h) (no k) = let e : f p ≡ f q = omega arith in
          is_order equal (f p) (f q) e ∙ sym (is_order equal (ranks p) (ranks q) (same p q e))

  test : (p q : Point) → ltb (ranks p) (ranks q) ≡ ltb (f p) (f q)
  test p q = by (dec_lt (f p) (f q)) (dec_lt (f q) (f p))
    where
      by : Dec (f p < f q) → Dec (f q < f p) → ltb (ranks p) (ranks q) ≡ ltb (f p) (f q)
      by (yes h) d = lt-ltb (ranks p) (ranks q) (up p q h) ∙ sym (lt-ltb (f p) (f q) h)
      by (no h) (yes k) = le-ltb (ranks p) (ranks q) (omega (arith, up q p k))
          ∙ sym (le-ltb (f p) (f q) (omega arith))
      by (no h) (no k) = le-ltb (ranks p) (ranks q) (omega (arith, same q p (omega arith)))
          ∙ sym (le-ltb (f p) (f q) (omega arith))

  again : (q : Point) → lower (numbers_of ranks) (ranks q) ≡ lower (numbers_of f) (f q)
  again q = rw (
    test (at start₁) q,
    test (at cut₁) q,
    test (at start₂) q,
    test (at cut₂) q,
    test
        stop₁ q,
    test stop₂ q,
  ) refl

  pub ranked : Ranked ranks
  unfolding ranks
  ranked = record { small = λ p. lower_few (numbers_of f) (f p) (member f p); rank = λ p. again p }

  -- the setting by ranks is the setting
  pub by_ranks : (l : Corner → Corner → Offset) (n : Point → ℕ) → setting f l n ≡ setting ranks l n
  by_ranks l n = λ i. record { order = λ p q. keeps_order p q i; offset = l; next = n }
