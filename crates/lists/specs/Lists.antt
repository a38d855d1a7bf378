-- A list that a call gives in lent bytes: docs/FORMAT.md, "Calls and lent memory".
use Rattle.std.specs.Prelude.{◌≡◌, List, [], ◌∷◌, ◌++◌, ℕ, ◌-◌, ◌≤◌, ◌<◌, length, replicate}

-- the bytes of a list's entries, one entry after the other, where `entry` has the bytes of one
abbrev pub bytes_of : {A : Type 0} → (A → List ℕ) → List A → List ℕ
bytes_of entry [] = []
bytes_of entry (a ∷ l) = entry a ++ bytes_of entry l

-- the lent bytes have become lent', and r is answered, where a list of `entries` entries with these
-- bytes is given; `given n` is the call's answer with the number n of entries, and `refused` its
-- refusal 22, with the number 0
pub data GivesList {R : Type 0} (given : ℕ → R) (refused : R) (bytes : List ℕ) (entries : ℕ)
    (lent lent' : List ℕ) (r : R) : Type 0 where
  -- the list stands at the front of the lent bytes, with 0 after it, and the answer holds its
  -- number of entries
  fits : length bytes ≤ length lent
      → r ≡ given entries → lent' ≡ bytes ++ replicate (length lent - length bytes) 0
      → GivesList given refused bytes entries lent lent' r
  -- one that doesn't fit is refused 22, those bytes all 0
  large : length lent < length bytes
      → r ≡ refused → lent' ≡ replicate (length lent) 0
      → GivesList given refused bytes entries lent lent' r
