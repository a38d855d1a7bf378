-- The arrangements of one length divided among p racks, and what a share reports: docs/FORMAT.md,
-- "Calls and lent memory".
use Rattle.std.specs.Prelude.{List, ℕ, suc, ◌+◌, ◌*◌, ◌/◌, ◌%◌, ◌≤◌, ◌<◌, min}
use Rattle.std.proofs.Math.Option.{Option, none, some}
use Rattle.grammar.specs.declared.Cell.{Cell}
use Rattle.grammar.specs.Trees.{Rules, TwoTrees}
use Rattle.grammar.specs.Candidates.{Terminal, Candidate, sentence}
use Rattle.grammar.specs.Sweeps.{terminal_count, arrangements}
use Rattle.arrangement_numbers.specs.Numbers.{number}

-- the number that share i of p begins with: each share has M ÷ p numbers, and the first, as many as
-- the remainder, one more
unfoldable pub first_of_share : ℕ → ℕ → ℕ → ℕ
first_of_share M p i = i * (M / p) + min i (M % p)

-- M: how many arrangements of length n there are over the sheet's terminals
abbrev pub total : Rules → ℕ → ℕ
total g n = arrangements (terminal_count g) n

-- no arrangement with a number from lo to below hi that rises has two trees
pub record NoneIn (g : Rules) (n lo hi : ℕ) : Type 0 where
  pub absent : (ds : List Cell) → Candidate (Terminal g) n ds → lo ≤ number g n ds
      → number g n ds < hi → TwoTrees g 0 (sentence ds) → ⊥

-- cs is the one with the lowest number there that rises and has two trees
pub record LowestIn (g : Rules) (n lo hi : ℕ) (cs : List Cell) : Type 0 where
  pub candidate : Candidate (Terminal g) n cs
  pub low : lo ≤ number g n cs
  pub high : number g n cs < hi
  pub two : TwoTrees g 0 (sentence cs)
  pub lowest : NoneIn g n lo (number g n cs)

-- what is reported from lo to below hi: clear, or the lowest
abbrev pub Reported : Rules → ℕ → ℕ → ℕ → Option (List Cell) → Type 0
Reported g n lo hi none = NoneIn g n lo hi
Reported g n lo hi (some cs) = LowestIn g n lo hi cs

-- what share i of p reports
abbrev pub Reports : Rules → ℕ → ℕ → ℕ → Option (List Cell) → Type 0
Reports g n p i r =
    Reported g n (first_of_share (total g n) p i) (first_of_share (total g n) p (suc i)) r
