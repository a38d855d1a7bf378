-- Members are put into words (inner: contracts of the functions that do so).
use Rattle.std.specs.Prelude.{◌≡◌, List, ◌⊎◌, ℕ, length, get_or}
use Rattle.sets.specs.Sets.{In}

-- rs' is rs with the members P, of a word and a number, besides
pub record Joins (P : ℕ → ℕ → Type 0) (rs rs' : List ℕ) : Type 0 where
  pub long : length rs' ≡ length rs
  pub keeps : (q B : ℕ) → In (get_or rs q 0) B → In (get_or rs' q 0) B
  pub only : (q B : ℕ) → In (get_or rs' q 0) B → In (get_or rs q 0) B ⊎ P q B
  pub all : (q B : ℕ) → P q B → In (get_or rs' q 0) B
