-- What a search of candidates finds (for inner functions).
use Rattle.std.specs.Prelude.{List, ℕ, ◌≤◌, Option, Some, None}
use Rattle.grammar.specs.declared.Cell.{Cell}
use Rattle.grammar.specs.Candidates.{Candidate}
use Rattle.grammar.specs.Sweeps.{SweepAnswer, clear, found}
use Rattle.candidates.specs.Arrays.{cells}
use Rattle.tried_count.specs.declared.Hit as Found

-- a candidate of length n over the terminals with Q, if the length has L
pub record Long (L Q : ℕ → Type 0) (n : ℕ) (cs : List Cell) : Type 0 where
  pub allowed : L n
  pub candidate : Candidate Q n cs

-- the answer that a search makes
abbrev pub answer_of : Option Found.Hit → SweepAnswer
answer_of None = clear
answer_of (Some h) = found (cells h.candidate 0 h.length)

-- a candidate of 1 to k tokens, of a length with L
pub record Hit (L Q : ℕ → Type 0) (k n : ℕ) (cs : List Cell) : Type 0 where
  pub low : 1 ≤ n
  pub high : n ≤ k
  pub allowed : L n
  pub candidate : Candidate Q n cs

-- what a search found: nothing, or such a candidate
abbrev pub Hits : (ℕ → Type 0) → (ℕ → Type 0) → ℕ → Option Found.Hit → Type 0
Hits L Q k None = Unit {0}
Hits L Q k (Some h) = Hit L Q k h.length (cells h.candidate 0 h.length)
