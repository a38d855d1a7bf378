-- A set of exactly the numbers with a property.
use Rattle.std.specs.Prelude.{ℕ}
use Rattle.sets.specs.Sets.{In}

pub record Exactly (s : ℕ) (P : ℕ → Type 0) : Type 0 where
  pub is : (B : ℕ) → In s B → P B
  pub all : (B : ℕ) → P B → In s B
