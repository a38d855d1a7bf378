-- Numbers over a set of terminals, and the run of numbers that all arrangements with the same first
-- cells have. Only the search needs it.
use Rattle.std.specs.Prelude.{List, ℕ, ◌-◌, ◌*◌, ◌%◌, ◌^◌, ◌≤◌, take}
use Rattle.std.specs.Int.Count.{ones}
use Rattle.grammar.specs.declared.Cell.{Cell}
use Rattle.candidates.specs.Windows.{largest_step_of}
use Rattle.arrangement_numbers.specs.Numbers.{capacity, number_from}

-- how many members of s are below x
abbrev pub place_in : ℕ → ℕ → ℕ
place_in s x = ones (s % 2 ^ x)

-- the number of cells over the terminals of s, n columns
abbrev pub number_in : ℕ → ℕ → List Cell → ℕ
number_in s n cs = number_from (ones s) (place_in s) n 0 cs

-- how many arrangements of length n share their first b cells
abbrev pub room : ℕ → ℕ → ℕ → ℕ
room s n b = capacity (ones s) (place_in s) n (largest_step_of b) (n - b)

-- the least number of those that share cs's first b cells
abbrev pub least : ℕ → ℕ → ℕ → List Cell → ℕ
least s n b cs = number_in s n (take b cs) * room s n b

-- a sweep of n tokens over s is taken on, and s has a terminal
pub record Few (s n : ℕ) : Type 0 where
  pub low : 1 ≤ n
  pub high : n ≤ 7
  pub nonempty : 1 ≤ ones s
  pub limit : capacity (ones s) (place_in s) n 0 n ≤ 4294967296
