-- What the functions that count promise; only the proofs of this crate need it.
use Rattle.std.specs.Prelude.{◌≡◌, ℕ, zero, suc, ◌+◌, ◌*◌, ◌/◌, ◌%◌, ◌^◌, ◌≤◌, ◌<◌, get_or}
use Rattle.grammar.specs.declared.Cell.{Cell}
use Rattle.grammar.specs.Sweeps.{arrangements}
use Rattle.tried_count.specs.declared.Row.{Row}
use Rattle.tried_count.specs.Ways.{ways, lesser, onward}

-- the ways to go on after a cell in column k
abbrev pub at : Row → ℕ → ℕ
at row k = get_or row.ways k 0

-- numbers that a sum of some of them stays small with
pub record Low (row : Row) : Type 0 where
  pub each : (k : ℕ) → at row k ≤ 4294967296

-- `next` has the ways to go on with one cell more
pub record OneCellMore (t n : ℕ) (row next : Row) : Type 0 where
  pub each : (k : ℕ) → k ≤ n → at next k ≡ t * ways (at row) n 2 k
  pub past : (k : ℕ) → n < k → at next k ≡ 0

-- the row has the ways to go on with r cells
pub record RowOf (t n r : ℕ) (row : Row) : Type 0 where
  pub each : (k : ℕ) → k ≤ n → at row k ≡ onward t n r k
  pub low : Low row

-- a length whose candidates refusal 24 keeps few
pub record Fair (t n : ℕ) : Type 0 where
  pub low : 1 ≤ n
  pub high : n ≤ 7
  pub few : t ≤ 64
  pub limit : arrangements t n ≤ 4294967296

-- so is each length up to k
pub record Fairs (t k : ℕ) : Type 0 where
  pub each : (n : ℕ) → 1 ≤ n → n ≤ k → Fair t n

-- how many members of s are below a
unfoldable pub members_below_of : ℕ → ℕ → ℕ
members_below_of s zero = 0
members_below_of s (suc a) = members_below_of s a + s / 2 ^ a % 2

-- the cells before c after a token in column p, each with the ways to go on after it
abbrev pub cell_rank : (ℕ → ℕ) → (ℕ → ℕ) → ℕ → ℕ → ℕ → Cell → ℕ
cell_rank below f n m p c = below c.terminal * ways f n m p + lesser f n p c.step c.column
