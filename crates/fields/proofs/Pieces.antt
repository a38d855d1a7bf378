-- Laws of `before` and `pieces` at a place of a list.
use mathlib.Core.Path.{◌≡◌, refl, ap, ◌∙◌}
use mathlib.Core.List.{List, [], ◌∷◌}
use mathlib.Core.Bool.{Bool, true, false, cond}
use Prim.Native.Nat.{ℕ, zero, suc, ◌+◌, ◌-◌, ◌≤◌, ◌<◌}
use Prim.Native.Nat.{zero-le, suc-le-suc}
use native.Mathlib.Nat.{le_refl, suc-add, zero-add, not-suc-le-zero, le_of_suc-le-suc}
use native.Mathlib.Numerals.{add-one}
use native.Mathlib.Omega.{arith}
use lib.ListN.{length, take, drop, get_or, length-drop, drop_of_length-le}
use lib.Seq.{drop-cons}
use lib.Dec.{eqb, leb-suc-suc}
use borrow.Author.Tests.{eq-eqb, ne_eqb, le-leb}
use Rattle.fields.specs.Pieces.{before, pieces, onto}
use Rattle.fields.specs.Cursors.{pieces_from}

-- at the end nothing stands before b
pub before_end : (b : ℕ) (s : List ℕ) (i : ℕ) → length s ≤ i → before b (drop i s) ≡ []
before_end b s i h = rw (drop_of_length-le s {i = i} h)

-- b itself stands at i
pub before_here : (b : ℕ) (s : List ℕ) (i : ℕ) → i < length s → get_or s i 0 ≡ b
    → before b (drop i s) ≡ []
before_here b s i h e = rw (drop-cons s i 0, eq-eqb (get_or s i 0) b e)

-- another byte stands at i
pub before_more : (b : ℕ) (s : List ℕ) (i : ℕ) → i < length s → (get_or s i 0 ≡ b → ⊥)
    → before b (drop i s) ≡ get_or s i 0 ∷ before b (drop (i + 1) s)
before_more b s i h e = rw (drop-cons s i 0, ne_eqb (get_or s i 0) b e, add-one)

pub before_le : (b : ℕ) (l : List ℕ) → length (before b l) ≤ length l
before_le b [] = le_refl 0
before_le b (x ∷ l) = go (eqb x b) (before_le b l)
  where
    go : (t : Bool) → length (before b l) ≤ length l
        → length (cond t [] (x ∷ before b l)) ≤ suc (length l)
    go true ih = zero-le
    go false ih = suc-le-suc ih

pub before_take : (b : ℕ) (l : List ℕ) → take (length (before b l)) l ≡ before b l
before_take b [] = refl
before_take b (x ∷ l) = go (eqb x b) (before_take b l)
  where
    go : (t : Bool) → take (length (before b l)) l ≡ before b l
        → take (length (cond t [] (x ∷ before b l))) (x ∷ l) ≡ cond t [] (x ∷ before b l)
    go true ih = refl
    go false ih = ap (λ (r : List ℕ). x ∷ r) ih

pub from_shift : (b x : ℕ) (s : List ℕ) (k : ℕ) → pieces_from b (x ∷ s) (suc k) ≡ pieces_from b s k
from_shift b x s k = rw (leb-suc-suc k (length s))

pub from_zero : (b : ℕ) (s : List ℕ) → pieces_from b s 0 ≡ pieces b s
from_zero b s = rw (le-leb 0 (length s) zero-le)

pub pieces_first : (b : ℕ) (s : List ℕ)
    → pieces b s ≡ before b s ∷ pieces_from b s (length (before b s) + 1)
pieces_first b [] = refl
pieces_first b (x ∷ s) = go (eqb x b) (pieces_first b s)
  where
    go : (t : Bool) → pieces b s ≡ before b s ∷ pieces_from b s (length (before b s) + 1)
        → cond t ([] ∷ pieces b s) (onto x (pieces b s)) ≡ cond t [] (x ∷ before b s)
        ∷ pieces_from b (x ∷ s) (length (cond t [] (x ∷ before b s)) + 1)
    go true ih = rw (from_shift b x s 0, from_zero)
    go false ih = rw (ih, suc-add (length (before b s)) 1, from_shift b x s)

-- the first of the pieces from a place on, and where the next one begins
pub from_step : (b : ℕ) (s : List ℕ) (at : ℕ) → at ≤ length s
    → pieces_from b s at ≡ before b (drop at s) ∷ pieces_from b s
    (at + length (before b (drop at s)) + 1)
from_step b s zero h = rw (from_zero, zero-add) (pieces_first b s)
from_step b [] (suc at) h = absurd (not-suc-le-zero h)
from_step b (x ∷ s) (suc at) h = rw (suc-add, suc-add, from_shift b x s, from_shift b x s)
    (from_step b s at (le_of_suc-le-suc h))

-- a piece that ends at e, as `piece_end` finds it
module _ (b : ℕ) (s : List ℕ) (at e : ℕ) (low : at ≤ length s)
    (ends : e ≡ at + length (before b (drop at s))) where
  pub cut_high : e ≤ length s
  cut_high = omega (arith, before_le b (drop at s), length-drop at s)

  pub cut_part : take (e - at) (drop at s) ≡ before b (drop at s)
  cut_part =
      let k : e - at ≡ length (before b (drop at s)) = omega arith in
      rw k (before_take b (drop at s))

  pub cut_step : pieces_from b s at ≡ take (e - at) (drop at s) ∷ pieces_from b s (e + 1)
  cut_step = from_step b s at low ∙ rw (cut_part, ends)
