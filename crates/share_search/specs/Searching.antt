-- What the search from the number lo on has settled so far, and what it finds. Only the proofs of a
-- share need it; the promise speaks of the lowest number.
use Rattle.std.specs.Prelude.{◌≡◌, Bool, true, false, List, ℕ, ◌≤◌, ◌<◌, Option, Some, None}
use Rattle.grammar.specs.declared.Cell.{Cell}
use Rattle.grammar.specs.Trees.{Rules, TwoTrees}
use Rattle.grammar.specs.Candidates.{Candidate, CellsBefore, sentence}
use Rattle.candidates.specs.Arrays.{cells}
use Rattle.candidates.specs.Terminals.{Among}
use Rattle.candidates.specs.Succession.{Shares}
use Rattle.arrangement_numbers.specs.Blocks.{number_in}
use Rattle.share_search.specs.declared.Hit.{Hit}

-- a candidate of length n with a number from lo on that has two trees
pub record Meets (g : Rules) (s n lo : ℕ) (cs : List Cell) : Type 0 where
  pub candidate : Candidate (Among s) n cs
  pub from : lo ≤ number_in s n cs
  pub two : TwoTrees g 0 (sentence cs)

-- the first of these
pub record Lowest (g : Rules) (s n lo : ℕ) (cs : List Cell) : Type 0 where
  pub meets : Meets g s n lo cs
  pub absent : (ds : List Cell) → Meets g s n lo ds → CellsBefore ds cs → ⊥

-- cs is a candidate of length n, and the first of these is not before it
pub record NoneBefore (g : Rules) (s n lo : ℕ) (cs : List Cell) : Type 0 where
  pub candidate : Candidate (Among s) n cs
  pub absent : (ds : List Cell) → Lowest g s n lo ds → CellsBefore ds cs → ⊥

-- it is none of those that share cs's first b cells
pub record NoneSharing (g : Rules) (s n lo b : ℕ) (cs : List Cell) : Type 0 where
  pub absent : (ds : List Cell) → Lowest g s n lo ds → Shares b ds cs → ⊥

-- what a look tells: out, it is none of those that share cs's first b cells; not out, and all cells
-- looked at: cs has two trees, and its number is from lo on
pub record Looked (out : Bool) (g : Rules) (s n lo b : ℕ) (cs : List Cell) : Type 0 where
  pub barren : out ≡ true → NoneSharing g s n lo b cs
  pub meets : out ≡ false → b ≡ n → Meets g s n lo cs

-- where the search stands: at the candidate cs, about to look at its first b cells
pub record ShareTurn (g : Rules) (s n lo b : ℕ) (cs : List Cell) : Type 0 where
  pub before : NoneBefore g s n lo cs
  pub known : b ≤ n

-- cs is the first of these, with its number, which is below hi
pub record Hits (g : Rules) (s n lo hi N : ℕ) (cs : List Cell) : Type 0 where
  pub number : N ≡ number_in s n cs
  pub high : number_in s n cs < hi
  pub lowest : Lowest g s n lo cs

-- none has a number below hi
pub record NoneBelow (g : Rules) (s n lo hi : ℕ) : Type 0 where
  pub absent : (ds : List Cell) → Meets g s n lo ds → number_in s n ds < hi → ⊥

-- what the search from lo to below hi finds: the first, with its number, or nothing
abbrev pub Searched : Rules → ℕ → ℕ → ℕ → ℕ → Option Hit → Type 0
Searched g s n lo hi (Some h) = Hits g s n lo hi h.number (cells h.candidate 0 n)
Searched g s n lo hi None = NoneBelow g s n lo hi
