-- The first candidate and the next one: "The next candidate is worked out from the one before
-- it by that order".
use Rattle.std.specs.Prelude.{◌≡◌, ◌⊎◌, List, ℕ, ◌-◌, ◌≤◌, Option, Some, None, take}
use Rattle.grammar.specs.declared.Cell.{Cell}
use Rattle.candidates.specs.declared.Stepped.{Stepped}
use Rattle.candidates.specs.Arrays.{cells}
use Rattle.grammar.specs.Candidates.{Candidate, CellsBefore}
use Rattle.candidates.specs.Terminals.{Among}

-- the first b cells are the same
abbrev pub Shares : ℕ → List Cell → List Cell → Type 0
Shares b ds cs = take b ds ≡ take b cs

-- cs is the first candidate of length n
pub record First (s n : ℕ) (cs : List Cell) : Type 0 where
  pub candidate : Candidate (Among s) n cs
  pub first : (ds : List Cell) → Candidate (Among s) n ds → CellsBefore ds cs → ⊥

-- rs is the least candidate after all that share cs's first b cells; where b is n, the next after
-- cs all cells before the last of the first `upto` are cs's
pub record Follows (s n b : ℕ) (cs : List Cell) (upto : ℕ) (rs : List Cell) : Type 0 where
  pub candidate : Candidate (Among s) n rs
  pub later : (ds : List Cell) → Candidate (Among s) n ds → Shares b ds cs → CellsBefore ds rs
  pub least : (ds : List Cell) → Candidate (Among s) n ds → CellsBefore ds rs
      → Shares b ds cs ⊎ CellsBefore ds cs
  pub low : 1 ≤ upto
  pub high : upto ≤ b
  pub kept : Shares (upto - 1) rs cs

-- no candidate comes after all that share cs's first b cells
pub record Ends (s n b : ℕ) (cs : List Cell) : Type 0 where
  pub last : (ds : List Cell) → Candidate (Among s) n ds → Shares b ds cs ⊎ CellsBefore ds cs

-- the next one, or that there is none
abbrev pub Succeeds : ℕ → ℕ → ℕ → List Cell → Option Stepped → Type 0
Succeeds s n b cs (Some r) = Follows s n b cs r.upto (cells r.to 0 n)
Succeeds s n b cs None = Ends s n b cs
