-- Which of two texts is the merged report.
use mathlib.Core.Path.{◌≡◌, refl}
use mathlib.Core.Bool.{Bool, true, false, cond}
use mathlib.Core.Logic.{◌⊎◌, inl, inr}
use mathlib.Core.List.{List}
use Prim.Native.Nat.{ℕ, ◌≤◌, ◌<◌}
use native.Mathlib.Omega.{arith}
use borrow.Author.Tests.{ltb-true, ltb-false, eqb-true, eqb-false}
use lib.Dec.{ltb, eqb}
use lib.ListN.{length}
use Rattle.std.specs.Prelude.{Some}
use Rattle.std.proofs.Common.{Less, Equal, Greater}
use Rattle.std.specs.Ordering.{is_lt, is_some_and, partial_ordering_then}
use Rattle.sets.proofs.Basics.{clash}
use Rattle.call_shares.specs.Share.{ShareResult}
use Rattle.call_shares.specs.Merge.{Leads, Ahead, first_refuses, second_refuses, second, first}
use Rattle.reports.specs.declared.Told.{Told}
use Rattle.reports.specs.declared.Told.TheVariants as Told
use Rattle.reports.specs.Reports.{MergeText, merging, ReportOf}
use Rattle.reports.specs.Rests.{Found, TellsOf, less}
use Rattle.reports.proofs.Sizes.{report_short}

-- the order of two found sentences by the tests of two pairs of numbers
abbrev below : Bool → Bool → Bool → Bool → Bool
below p q r u = is_some_and is_lt (partial_ordering_then (Some (cond p Less (cond q Equal Greater)))
    (Some (cond r Less (cond u Equal Greater))))

-- found sentences are ordered by their numbers of tokens, then by their own numbers
module _ (m M n N : ℕ) where
  less_found : less (Told.Found m M) (Told.Found n N) ≡ true → (m < n) ⊎ ((m ≡ n) × (M < N))
  less_found = go (ltb m n) (eqb m n) (ltb M N) (eqb M N) refl refl refl
    where
      go : (p q r u : Bool) → ltb m n ≡ p → eqb m n ≡ q → ltb M N ≡ r → below p q r u ≡ true
          → (m < n) ⊎ ((m ≡ n) × (M < N))
      go true q r u a b c e = inl (ltb-true m n a)
      go false true true u a b c e = inr (eqb-true m n b, ltb-true M N c)
      go false true false true a b c e = absurd (clash cc)
      go false true false false a b c e = absurd (clash cc)
      go false false r u a b c e = absurd (clash cc)

  less_false : less (Told.Found m M) (Told.Found n N) ≡ false → (m < n) ⊎ ((m ≡ n) × (M < N)) → ⊥
  less_false = go (ltb m n) (eqb m n) (ltb M N) (eqb M N) refl refl refl
    where
      go : (p q r u : Bool) → ltb m n ≡ p → eqb m n ≡ q → ltb M N ≡ r → below p q r u ≡ false
          → (m < n) ⊎ ((m ≡ n) × (M < N)) → ⊥
      go true q r u a b c e h = clash cc
      go false q r u a b c e (inl h) = omega (arith, ltb-false m n a)
      go false true true u a b c e (inr h) = clash cc
      go false true false u a b c e (inr h) = let k = h.1 in omega (arith, ltb-false M N c)
      go false false r u a b c e (inr h) = eqb-false m n b h.0

-- one of two reports leads by its tokens and its number
ahead : {s t : List ℕ} {n N m M : ℕ} (x : Found s n N) (y : Found t m M)
    → Ahead y.reply x.reply → Leads m M n N
ahead x y l = rw (y.count, y.number, x.count, x.number) at l

ahead_of : {s t : List ℕ} {n N m M : ℕ} (x : Found s n N) (y : Found t m M) → Leads m M n N
    → Ahead y.reply x.reply
ahead_of x y l = rw (y.count, y.number, x.count, x.number) l

-- a report of no tokens does not lead
silent : {M n N : ℕ} → Leads 0 M n N → ⊥
silent l = omega (arith, l.reports)

sooner : {m M n N : ℕ} → 1 ≤ n → Leads m M n N → (m < n) ⊎ ((m ≡ n) × (M < N))
sooner {m = m} {M = M} {n = n} {N = N} h l = go l.sooner
  where
    go : (n ≡ 0) ⊎ ((m < n) ⊎ ((m ≡ n) × (M < N))) → (m < n) ⊎ ((m ≡ n) × (M < N))
    go (inl e) = absurd (omega arith)
    go (inr e) = e

module _ (s t : List ℕ) where
  -- the other text is a report too
  told_of : (b : Told) → TellsOf t (Some b) → (r : ShareResult) × ReportOf t r
  told_of Told.Refused y = (y.reply, y.of)
  told_of (Told.Found m M) y = (y.1.reply, y.1.of)
  told_of Told.Clear y = (y.reply, y.of)

  pub take_one : (a b : Told) → TellsOf s (Some a) → TellsOf t (Some b) → less b a ≡ false
      → MergeText s t s
  take_one Told.Refused b x y e =
      merging x.of (told_of b y).1 (first_refuses x.refuses refl) x.of.written
  take_one (Told.Found n N) Told.Refused x y e = absurd (clash cc)
  take_one (Told.Found n N) (Told.Found m M) x y e =
      merging x.1.of y.1.of
      (first x.1.taken y.1.taken (λ l. less_false m M n N e (sooner x.0 (ahead x.1 y.1 l))) refl)
      x.1.of.written
  take_one (Told.Found n N) Told.Clear x y e =
      merging x.1.of y.of (first x.1.taken y.taken (λ l. silent (ahead x.1 y l)) refl)
      x.1.of.written
  take_one Told.Clear Told.Refused x y e = absurd (clash cc)
  take_one Told.Clear (Told.Found m M) x y e = absurd (clash cc)
  take_one Told.Clear Told.Clear x y e =
      merging x.of y.of (first x.taken y.taken (λ l. silent (ahead x y l)) refl) x.of.written

  pub take_two : (a b : Told) → TellsOf s (Some a) → TellsOf t (Some b) → less b a ≡ true
      → MergeText s t t
  take_two Told.Refused Told.Refused x y e = absurd (clash cc)
  take_two Told.Refused (Told.Found m M) x y e = absurd (clash cc)
  take_two Told.Refused Told.Clear x y e = absurd (clash cc)
  take_two (Told.Found n N) Told.Refused x y e =
      merging x.1.of y.of (second_refuses x.1.taken y.refuses refl) y.of.written
  take_two (Told.Found n N) (Told.Found m M) x y e =
      merging x.1.of y.1.of
      (second x.1.taken y.1.taken
      (ahead_of x.1 y.1 (record { reports = y.0; sooner = inr (less_found m M n N e) })) refl)
      y.1.of.written
  take_two (Told.Found n N) Told.Clear x y e = absurd (clash cc)
  take_two Told.Clear Told.Refused x y e =
      merging x.of y.of (second_refuses x.taken y.refuses refl) y.of.written
  take_two Told.Clear (Told.Found m M) x y e =
      merging x.of y.1.of
      (second x.taken y.1.taken (ahead_of x y.1 (record { reports = y.0; sooner = inl refl })) refl)
      y.1.of.written
  take_two Told.Clear Told.Clear x y e = absurd (clash cc)

-- a text that tells something is short
pub told_short : (s : List ℕ) (a : Told) → TellsOf s (Some a) → length s ≤ 400
told_short s Told.Refused x = report_short s x.of
told_short s (Told.Found n N) x = report_short s x.1.of
told_short s Told.Clear x = report_short s x.of
