-- Counts below 4,294,967,296, the least that is not told (docs/FORMAT.md, "Calls and lent memory").
-- For the contracts of inner functions only.
use Rattle.std.specs.Prelude.{ℕ, min}

-- a count, or the limit where it is more
unfoldable pub capped : ℕ → ℕ
capped n = min n 4294967296
