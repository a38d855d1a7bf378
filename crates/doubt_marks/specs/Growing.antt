-- Bits that are set one after the other. For the contracts of inner functions only.
use Rattle.std.specs.Prelude.{◌≡◌, ◌⊎◌, List, ℕ, ◌<◌, length}
use Rattle.doubt_list.specs.Marks.{Bit}

-- the bits with D are set besides, and no others
pub record Grows (D : ℕ → ℕ → Type 0) (old new : List ℕ) : Type 0 where
  pub size : length new ≡ length old
  pub keeps : (p q : ℕ) → Bit old p q → Bit new p q
  pub has : (p q : ℕ) → D p q → Bit new p q
  pub only : (p q : ℕ) → q < 128 → Bit new p q → Bit old p q ⊎ D p q

-- one of the first n has this bit
pub record Upto (n : ℕ) (D : ℕ → ℕ → ℕ → Type 0) (p q : ℕ) : Type 0 where
  pub place : ℕ
  pub low : place < n
  pub is : D place p q

pub record OneBit (a b p q : ℕ) : Type 0 where
  pub row : p ≡ a
  pub column : q ≡ b
