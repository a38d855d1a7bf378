-- The least member of a set from a number on.
use Rattle.std.specs.Prelude.{ℕ, ◌≤◌, ◌<◌}
use Rattle.std.specs.Prelude.{Option, Some, None}
use Rattle.sets.specs.Sets.{In}

-- the least member of s from a on, among the numbers below 64
abbrev pub FirstFrom : ℕ → ℕ → Option ℕ → Type 0
FirstFrom s a (Some t) = (a ≤ t) × (t < 64) × In s t × ((x : ℕ) → In s x → a ≤ x → t ≤ x)
FirstFrom s a None = (x : ℕ) → x < 64 → In s x → x < a
