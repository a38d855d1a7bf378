-- What the inner functions on one cell and on the cells from one on promise; only the proofs in
-- this crate need it. A cell is judged by what stands before it: the first follows a token in
-- column 0 with a largest step of 0, so one rule serves all cells.
use Rattle.std.specs.Prelude.{◌≡◌, ◌⊎◌, ◌≢◌, List, [], ◌∷◌, ℕ, zero, suc, ◌+◌}
use Rattle.std.specs.Prelude.{◌-◌, ◌≤◌, ◌<◌, length, Option, Some, None}
use Rattle.grammar.specs.declared.Cell.{Cell}
use Rattle.grammar.specs.Candidates.{Ranged, CellBefore, CellsBefore}
use Rattle.candidates.specs.declared.Candidate.{Candidate}
use Rattle.candidates.specs.declared.Stepped.{Stepped}
use Rattle.candidates.specs.Terminals.{Among}
use Rattle.candidates.specs.Arrays.{cell_at, cells}
use Rattle.candidates.specs.Succession.{Shares}

-- a cell in its range that comes after a token in column p
pub record Fits (Q : ℕ → Type 0) (n m p : ℕ) (c : Cell) : Type 0 where
  pub ranged : Ranged Q n m c
  pub after : c.step ≡ 0 → p < c.column

-- cells in their ranges, each after the one before, and the first after a token in column p
abbrev pub Fit : (ℕ → Type 0) → ℕ → ℕ → ℕ → List Cell → Type 0
Fit Q n m p [] = Unit {0}
Fit Q n m p (c ∷ cs) = Fits Q n m p c × Fit Q n 2 c.column cs

-- ---- one cell

-- the least step s and column k after a token in column p
pub record LeastSpot (n m p s k : ℕ) : Type 0 where
  pub step : s ≤ m
  pub low : 1 ≤ k
  pub high : k ≤ n
  pub after : s ≡ 0 → p < k
  pub least_step : (s' k' : ℕ) → s' ≤ m → k' ≤ n → (s' ≡ 0 → p < k') → s ≤ s'
  pub least_column : (k' : ℕ) → 1 ≤ k' → (s ≡ 0 → p < k') → k ≤ k'

-- there is a cell after column p
pub record Room (n m p : ℕ) : Type 0 where
  pub nonempty : 1 ≤ n
  pub few : n ≤ 7
  pub next : n ≤ p → 1 ≤ m

module _ (Q : ℕ → Type 0) (n m p : ℕ) where
  pub record LeastCell (c : Cell) : Type 0 where
    pub fits : Fits Q n m p c
    pub least : (d : Cell) → Fits Q n m p d → CellBefore d c → ⊥

  pub record NextCell (c r : Cell) : Type 0 where
    pub fits : Fits Q n m p r
    pub later : CellBefore c r
    pub gapless : (d : Cell) → Fits Q n m p d → CellBefore d r → (d ≡ c) ⊎ CellBefore d c

  pub record LastCell (c : Cell) : Type 0 where
    pub last : (d : Cell) → Fits Q n m p d → (d ≡ c) ⊎ CellBefore d c

-- the next cell, or that there is none
abbrev pub Advances : ℕ → ℕ → ℕ → ℕ → Cell → Option Cell → Type 0
Advances s n m p c (Some r) = NextCell (Among s) n m p c r
Advances s n m p c None = LastCell (Among s) n m p c

-- ---- cells after one another

module _ (Q : ℕ → Type 0) (n m p : ℕ) where
  -- cs are the least j cells
  pub record Least (j : ℕ) (cs : List Cell) : Type 0 where
    pub size : length cs ≡ j
    pub fit : Fit Q n m p cs
    pub least : (ds : List Cell) → length ds ≡ j → Fit Q n m p ds → CellsBefore ds cs → ⊥

  -- rs are the least after all that share cs's first b cells
  pub record Next (b : ℕ) (cs rs : List Cell) : Type 0 where
    pub size : length rs ≡ length cs
    pub fit : Fit Q n m p rs
    pub later : (ds : List Cell) → length ds ≡ length cs → Shares b ds cs → CellsBefore ds rs
    pub gapless : (ds : List Cell) → length ds ≡ length cs → Fit Q n m p ds → CellsBefore ds rs
        → Shares b ds cs ⊎ CellsBefore ds cs

  -- none come after those
  pub record Last (b : ℕ) (cs : List Cell) : Type 0 where
    pub last : (ds : List Cell) → length ds ≡ length cs → Fit Q n m p ds
        → Shares b ds cs ⊎ CellsBefore ds cs

-- ---- the cells of an array from i on

-- the largest step of the cell at i
abbrev pub largest_step_of : ℕ → ℕ
largest_step_of zero = 0
largest_step_of (suc i) = 2

-- the column of the cell before i
abbrev pub column_before_of : Candidate → ℕ → ℕ
column_before_of c zero = 0
column_before_of c (suc i) = (cell_at c i).column

-- r has d at i, and else what c has
pub record Changed (c : Candidate) (i : ℕ) (d : Cell) (r : Candidate) : Type 0 where
  pub here : cell_at r i ≡ d
  pub other : (j : ℕ) → j ≢ i → cell_at r j ≡ cell_at c j

-- r has c's cells below i
abbrev pub Kept : Candidate → ℕ → Candidate → Type 0
Kept c i r = (j : ℕ) → j < i → cell_at r j ≡ cell_at c j

-- r is c but for the cell at i, which is the least there
pub record Lowered (s n : ℕ) (c : Candidate) (i : ℕ) (r : Candidate) : Type 0 where
  pub least : LeastCell (Among s) n (largest_step_of i) (column_before_of c i) (cell_at r i)
  pub other : (j : ℕ) → j ≢ i → cell_at r j ≡ cell_at c j

-- from i on r has the least cells after c's
pub record Filled (s n : ℕ) (c : Candidate) (i : ℕ) (r : Candidate) : Type 0 where
  pub kept : Kept c i r
  pub least : Least (Among s) n (largest_step_of i) (column_before_of c i) (n - i)
      (cells r i (n - i))

-- r has the next cell at i, and the least ones behind it
pub record Raised (s n : ℕ) (c : Candidate) (i upto : ℕ) (r : Candidate) : Type 0 where
  pub at : upto ≡ i + 1
  pub kept : Kept c i r
  pub next : NextCell (Among s) n (largest_step_of i) (column_before_of c i) (cell_at c i)
      (cell_at r i)
  pub least : Least (Among s) n 2 (cell_at r i).column (n - (i + 1)) (cells r (i + 1) (n - (i + 1)))

-- so it is where there is a next cell, else the cell at i is the last
abbrev pub Raises : ℕ → ℕ → Candidate → ℕ → Option Stepped → Type 0
Raises s n c i (Some r) = Raised s n c i r.upto r.to
Raises s n c i None =
    LastCell (Among s) n (largest_step_of i) (column_before_of c i) (cell_at c i)
