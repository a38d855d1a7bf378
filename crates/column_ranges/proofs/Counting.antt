-- The count of choices, from the last token on.
use mathlib.Core.Path.{◌≡◌, sym, ap, ◌∙◌, subst}
use mathlib.Core.List.{[], ◌∷◌}
use Prim.Native.Nat.{ℕ, zero, suc, ◌-◌, ◌*◌, ◌≤◌, ◌<◌}
use native.Mathlib.Omega.{arith}
use native.Mathlib.Nat.{mul-le-mul, mul-le-mul_right, one-mul, mul_comm, le_refl}
use lib.ListN.{length, get_or, drop}
use lib.Seq.{drop-cons, drop-length, get_or-take}
use Rattle.grammar.specs.Layout.{Every}
use Rattle.column_ranges.specs.declared.RangeToken.{RangeToken}
use Rattle.column_ranges.specs.declared.RangeSentence.{RangeSentence}
use Rattle.column_ranges.specs.Ranges.{Ranges, columns, choice_count, choice_limit}
use Rattle.column_ranges.specs.RangeSentences.{ranges_of, EndsOrdered, Spread, CountsChoices}
use Rattle.column_ranges.specs.RangeSentences.{no_range}

every_at : (P : RangeToken → Type 0) (rs : Ranges) → Every P rs → (i : ℕ) → i < length rs
    → P (get_or rs i no_range)
every_at P [] e i h = absurd (omega arith)
every_at P (r ∷ rs) e zero h = e.0
every_at P (r ∷ rs) e (suc i) h = every_at P rs e.1 i (omega arith)

-- the token that the code reads
pub range_read : (s : RangeSentence) (i : ℕ) → i < s.count
    → get_or (ranges_of s) i no_range ≡ get_or s.tokens i no_range
range_read s i h = get_or-take s.count s.tokens i no_range h

pub ended_at : {s : RangeSentence} → Spread s → (i : ℕ) → i < s.count
    → EndsOrdered (get_or s.tokens i no_range)
ended_at {s} p i h = subst EndsOrdered (range_read s i h)
    (every_at EndsOrdered (ranges_of s) p.ended i (omega (arith, p.whole)))

-- ---- the count

-- fewer tokens have no more choices
drop_fewer : (rs : Ranges) → Every EndsOrdered rs → (i : ℕ)
    → choice_count (drop i rs) ≤ choice_count rs
drop_fewer rs e zero = le_refl _
drop_fewer [] e (suc i) = le_refl _
drop_fewer (r ∷ rs) e (suc i) =
    let h = drop_fewer rs e.1 i in
    let c : 1 ≤ columns r = omega (arith, e.0.ordered) in
    let m : 1 * choice_count rs ≤ columns r * choice_count rs =
    mul-le-mul_right (choice_count rs) c in
    omega (arith, rw (one-mul (choice_count rs)) at m)

-- where the count stands: the tokens from i on are counted
pub record Counting (s : RangeSentence) (m i : ℕ) : Type 0 where
  pub inside : i ≤ s.count
  pub few : m ≤ choice_limit
  pub exact : m ≡ choice_count (drop i (ranges_of s))

module _ {s : RangeSentence} (p : Spread s) where
  pub counting_none : Counting s 1 s.count
  counting_none =
      let e : drop s.count (ranges_of s) ≡ [] =
      ap (λ (n : ℕ). drop n (ranges_of s)) (sym p.whole) ∙ drop-length (ranges_of s) in
      record { inside = omega arith; few = omega arith; exact = ap choice_count (sym e) }

  -- the product with the columns of the token before
  pub counting_more : {m i k : ℕ} → 0 < i → Counting s m i
      → k ≡ columns (get_or s.tokens (i - 1) no_range)
      → m * k ≡ choice_count (drop (i - 1) (ranges_of s))
  counting_more {m} {i} {k} h c e =
      let j : suc (i - 1) ≡ i = omega arith in
      let d : drop (i - 1) (ranges_of s) ≡ get_or (ranges_of s) (i - 1) no_range
      ∷ drop (suc (i - 1)) (ranges_of s) =
      drop-cons (ranges_of s) (i - 1) no_range (omega (arith, p.whole, c.inside)) in
      let x : choice_count (drop (suc (i - 1)) (ranges_of s)) ≡ m =
      ap (λ (n : ℕ). choice_count (drop n (ranges_of s))) j ∙ sym c.exact in
      let y : columns (get_or (ranges_of s) (i - 1) no_range) ≡ k =
      ap columns (range_read s (i - 1) (omega (arith, c.inside))) ∙ sym e in
      sym (ap choice_count d ∙ ap (λ (n : ℕ). columns (get_or (ranges_of s) (i - 1) no_range) * n) x
      ∙ ap (λ (n : ℕ). n * m) y ∙ mul_comm k m)

  pub counts_over : (m i : ℕ) → choice_limit < m → m ≡ choice_count (drop i (ranges_of s))
      → CountsChoices (ranges_of s) m
  counts_over m i h e = record {
    exact = λ l. absurd (omega arith);
    over = λ l. let z = drop_fewer
        (ranges_of s) p.ended i in omega (arith, z, e);
  }

  pub counts_all : (m i : ℕ) → i ≡ 0 → Counting s m i → CountsChoices (ranges_of s) m
  counts_all m i z c =
      let e : m ≡ choice_count (ranges_of s) =
      c.exact ∙ ap (λ (n : ℕ). choice_count (drop n (ranges_of s))) z in
      record { exact = λ l. e; over = λ l. omega (arith, c.few) }

  -- the product fits
  pub product_fits : {m i k : ℕ} → 0 < i → Counting s m i
      → k ≡ columns (get_or s.tokens (i - 1) no_range) → m * k ≤ 65536 * 65535
  product_fits {m} {i} {k} h c e =
      let x = ended_at p (i - 1) (omega (arith, c.inside)) in
      mul-le-mul {n₁ = m} {m₁ = k} {n₂ = 65536} {m₂ = 65535} c.few
      (omega (arith, x.least, x.most))
