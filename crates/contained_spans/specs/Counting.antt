-- None, one, or two and more (inner: contracts of the functions that count choices).
use Rattle.std.specs.Prelude.{◌≡◌, ℕ, ◌+◌, ◌≤◌, ◌<◌}
use Rattle.sets.specs.Insertion.{insert}

-- r says whether P holds of none, of one, or of two or more
pub record CountTells {X : Type 0} (P : X → Type 0) (r : ℕ) : Type 0 where
  pub few : r ≤ 2
  pub present : 0 < r → (x : X) × P x
  pub absent : r ≡ 0 → (x : X) → P x → ⊥
  pub more : 1 < r → (x : X) × (y : X) × P x × P y × (x ≡ y → ⊥)
  pub once : r < 2 → (x y : X) → P x → P y → x ≡ y

-- r is what a and b say together, of what excludes one another
pub record Plus (a b r : ℕ) : Type 0 where
  pub less : a + b < 2 → r ≡ a + b
  pub many : 2 ≤ a + b → r ≡ 2

-- r is the set with a besides if the count is 2
pub record Noted (set a count r : ℕ) : Type 0 where
  pub more : 1 < count → r ≡ insert set a
  pub less : count < 2 → r ≡ set

-- a choice: a rule's place and a left length
pub record Spot : Type 0 where
  pub place : ℕ
  pub left : ℕ
