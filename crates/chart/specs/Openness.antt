-- Spans of two open tokens or more: what stands over them goes by the pairs of those tokens alone,
-- so theirs hold for every sentence of that length.
use Rattle.std.specs.Prelude.{ℕ, ◌+◌, ◌≤◌, ◌<◌, List}
use Rattle.grammar.specs.Trees.{Rules}
use Rattle.tables.specs.Tables.{One, Two, Leave, Stand, Again}

-- an open token leaves everything to every clause
abbrev pub anything : Leave
anything = record { atom = λ a b. Unit {0}; unary = λ m. Unit {0}; binary = λ m l. Unit {0} }

-- of the spans of two tokens or more that begin at or past `to`, the words ws have all that can
-- stand over open tokens
pub record Open (g : Rules) (n : ℕ) (ws : List ℕ) (to : ℕ) : Type 0 where
  pub each : (a b A i l : ℕ) → to ≤ a → 1 < b → a + b ≤ n → Stand (One ws n) g anything a b A i l
      → One ws n a b A
  pub again : (a b A : ℕ) → to ≤ a → 1 < b → a + b ≤ n
      → Again (One ws n) (Two ws n) g anything a b A → Two ws n a b A
