-- Lists of bytes, in which some are replaced. For the contracts of inner functions only.
use Rattle.std.specs.Prelude.{List, ◌++◌, ℕ, ◌+◌, length, take, drop}

-- the list with v in the place of as many elements
unfoldable pub splice : List ℕ → ℕ → List ℕ → List ℕ
splice l at v = take at l ++ v ++ drop (at + length v) l
