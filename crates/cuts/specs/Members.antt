-- The members of a set, one after the other.
use Rattle.std.specs.Prelude.{◌≡◌, ℕ, ◌-◌, Option, Some, None}
use Rattle.std.specs.Int.Bits.{bit_and}
use Rattle.cuts.specs.Puts.{Least}

-- a step from those of s to those of t: it takes the least, or says that there is none
abbrev pub Steps : ℕ → Option ℕ → ℕ → Type 0
Steps s (Some a) t = Least s a × (t ≡ bit_and s (s - 1))
Steps s None t = (s ≡ 0) × (t ≡ 0)
