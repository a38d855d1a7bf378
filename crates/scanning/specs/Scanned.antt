-- For the contracts of inner functions only. What stands in a text from a place on: fixed bytes, or
-- a number with the byte that ends it.
use Rattle.std.specs.Prelude.{◌≡◌, ◌⊎◌, List, ◌∷◌, ◌++◌, ℕ, ◌≤◌, ◌<◌, length, drop}
use Rattle.std.specs.Prelude.{Option, Some, None}
use Rattle.printing.specs.Printing.{decimal}
use Rattle.scanning.specs.declared.Digits.{Digits}
use Rattle.std.specs.Prelude.{Option, Some, None}

-- the text begins with these bytes
pub record Starts (text bytes : List ℕ) : Type 0 where
  pub rest : List ℕ
  pub is : text ≡ bytes ++ rest

-- digits were read from `at` on: none, or a number as it is written; no number at most `most` that
-- ends there with a byte below the digits is another one
pub record DigitsAt (s : List ℕ) (at most : ℕ) (r : Digits) : Type 0 where
  pub read : (r.next ≡ at) ⊎ (drop at s ≡ decimal r.value ++ drop r.next s)
  pub inside : r.next ≤ length s
  pub small : r.value ≤ most
  pub only : (w e : ℕ) (t : List ℕ) → w ≤ most → e < 48 → drop at s ≡ decimal w ++ (e ∷ t)
      → (r.value ≡ w) × (drop r.next s ≡ e ∷ t)

-- a number, at most `most`, with the byte `end` behind it
pub record Numbered (s : List ℕ) (at most end v next : ℕ) : Type 0 where
  pub small : v ≤ most
  pub inside : next ≤ length s
  pub is : drop at s ≡ decimal v ++ (end ∷ drop next s)

-- no such number
pub record Unnumbered (s : List ℕ) (at most end : ℕ) : Type 0 where
  pub absent : (v : ℕ) (t : List ℕ) → v ≤ most → drop at s ≡ decimal v ++ (end ∷ t) → ⊥

abbrev pub NumberAt : List ℕ → ℕ → ℕ → ℕ → Option (ℕ × ℕ) → Type 0
NumberAt s at most end (Some x) = Numbered s at most end x.0 x.1
NumberAt s at most end None = Unnumbered s at most end
