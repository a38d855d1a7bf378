-- A set and one member more (for inner functions).
use Rattle.std.specs.Prelude.{ℕ, ◌^◌}
use Rattle.std.specs.Int.Bits.{bit_or}

-- the set s and a besides
unfoldable pub insert : ℕ → ℕ → ℕ
insert s a = bit_or s (2 ^ a)
