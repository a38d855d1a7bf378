-- The cells that a candidate's three arrays hold.
use Rattle.std.specs.Prelude.{List, [], ◌∷◌, ℕ, zero, suc, get_or}
use Rattle.grammar.specs.declared.Cell.{Cell}
use Rattle.candidates.specs.declared.Candidate.{Candidate}

-- what stands past the cells
abbrev pub no_cell : Cell
no_cell = record { terminal = 0; step = 0; column = 0 }

-- the cell at i
abbrev pub cell_at : Candidate → ℕ → Cell
cell_at c i = record {
  terminal = get_or c.terminals i 0;
  step = get_or c.steps i 0;
  column = get_or c.columns i 0;
}

-- j cells from i on: a candidate of length n has `cells c 0 n`
abbrev pub cells : Candidate → ℕ → ℕ → List Cell
cells c i zero = []
cells c i (suc j) = cell_at c i ∷ cells c (suc i) j
