-- What the search over candidates has settled so far, and what it finds. Only the proofs of the
-- sweep need it; the promise speaks of the first candidate of all.
use Rattle.std.specs.Prelude.{◌≡◌, Bool, true, false, List, ℕ, ◌+◌, ◌≤◌, ◌<◌, length, Option, Some}
use Rattle.std.specs.Prelude.{None}
use Rattle.sets.specs.Sets.{In}
use Rattle.grammar.specs.declared.Cell.{Cell}
use Rattle.grammar.specs.Layout.{Word}
use Rattle.grammar.specs.Trees.{Rules, TwoTrees}
use Rattle.grammar.specs.Candidates.{Candidate, CellsBefore, sentence}
use Rattle.candidates.specs.Arrays.{cells}
use Rattle.candidates.specs.Terminals.{Among}
use Rattle.candidates.specs.Succession.{Shares}
use Rattle.tried_count.specs.declared.Hit.{Hit}

-- no candidate of 1 to n - 1 tokens has two trees
pub record NoneShorter (g : Rules) (s n : ℕ) : Type 0 where
  pub absent : (m : ℕ) (ds : List Cell) → 1 ≤ m → m < n → Candidate (Among s) m ds
      → TwoTrees g 0 (sentence ds) → ⊥

-- no candidate of n tokens has two trees
pub record NoneLong (g : Rules) (s n : ℕ) : Type 0 where
  pub absent : (ds : List Cell) → Candidate (Among s) n ds → TwoTrees g 0 (sentence ds) → ⊥

-- every sentence of 1 to 7 tokens that has two trees has a length in s
pub record Admits (g : Rules) (s : ℕ) : Type 0 where
  pub all : (w : Word) → 1 ≤ length w → length w ≤ 7 → TwoTrees g 0 w → In s (length w)

-- cs is a candidate of length n, and none before it has two trees
pub record NoneBefore (g : Rules) (s n : ℕ) (cs : List Cell) : Type 0 where
  pub candidate : Candidate (Among s) n cs
  pub absent : (ds : List Cell) → Candidate (Among s) n ds → CellsBefore ds cs
      → TwoTrees g 0 (sentence ds) → ⊥

-- no candidate of length n that shares cs's first b cells has two trees
pub record NoneSharing (g : Rules) (s n b : ℕ) (cs : List Cell) : Type 0 where
  pub absent : (ds : List Cell) → Candidate (Among s) n ds → Shares b ds cs
      → TwoTrees g 0 (sentence ds) → ⊥

-- what a look at the candidates that share cs's first b cells tells: out, none of them has two
-- trees if none before cs has; not out, and all cells looked at: cs has
pub record Looked (out : Bool) (g : Rules) (s n b : ℕ) (cs : List Cell) : Type 0 where
  pub barren : out ≡ true → NoneBefore g s n cs → NoneSharing g s n b cs
  pub two : out ≡ false → b ≡ n → TwoTrees g 0 (sentence cs)

-- cs, of length n, is the first candidate of 1 to k tokens that has two trees
pub record Hits (g : Rules) (s k n : ℕ) (cs : List Cell) : Type 0 where
  pub low : 1 ≤ n
  pub high : n ≤ k
  pub before : NoneBefore g s n cs
  pub two : TwoTrees g 0 (sentence cs)
  pub shorter : NoneShorter g s n

-- what the search up to k finds: a hit, or nothing
abbrev pub Searched : Rules → ℕ → ℕ → Option Hit → Type 0
Searched g s k (Some h) = Hits g s k h.length (cells h.candidate 0 h.length)
Searched g s k None = NoneShorter g s (k + 1)

-- where the search stands: at the candidate cs of n tokens, about to look at its first b cells
pub record SweepTurn (g : Rules) (s n b : ℕ) (cs : List Cell) : Type 0 where
  pub before : NoneBefore g s n cs
  pub known : b ≤ n
