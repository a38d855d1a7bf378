-- Earlier candidates that read alike and keep some first cells. A search from the middle of the
-- order on may pass over a candidate only where such a twin is not before the place where the
-- search began.
use Rattle.std.specs.Prelude.{◌≡◌, Bool, false, cond, not, ◌||◌, List, [], ◌∷◌, ℕ, zero, suc, ◌+◌}
use Rattle.std.specs.Prelude.{eqb}
use Rattle.grammar.specs.declared.Cell.{Cell}
use Rattle.grammar.specs.Trees.{Rules, TwoTrees}
use Rattle.grammar.specs.Candidates.{Candidate, CellsBefore, sentence}
use Rattle.candidates.specs.Terminals.{Among}
use Rattle.candidates.specs.Succession.{Shares}

-- a candidate before ds that shares its first p cells and has two trees
pub record Twin (g : Rules) (s n p : ℕ) (ds : List Cell) : Type 0 where
  pub cells : List Cell
  pub candidate : Candidate (Among s) n cells
  pub kept : Shares p cells ds
  pub before : CellsBefore cells ds
  pub two : TwoTrees g 0 (sentence cells)

-- each candidate that shares cs's first b cells and has two trees has a twin that shares its first
-- p cells
pub record Replaceable (g : Rules) (s n b p : ℕ) (cs : List Cell) : Type 0 where
  pub twin : (ds : List Cell) → Candidate (Among s) n ds → Shares b ds cs
      → TwoTrees g 0 (sentence ds) → Twin g s n p ds

-- one of the cells is in column j
abbrev pub used : ℕ → List Cell → Bool
used j [] = false
used j (c ∷ cs) = eqb c.column j || used j cs

-- how many of the columns 1 to m the cells cs leave out right below a column of theirs that none of
-- the cells hs is in; w: so it is of the column above m
abbrev pub lacking : ℕ → Bool → List Cell → List Cell → ℕ
lacking zero w hs cs = 0
lacking (suc m) w hs cs = cond (used (suc m) cs) (lacking m (not (used (suc m) hs)) hs cs)
    (cond w 1 0 + lacking m w hs cs)

-- there is a cell at p, and it has P
abbrev pub At : (Cell → Type 0) → ℕ → List Cell → Type 0
At P p [] = ⊥
At P zero (c ∷ cs) = P c
At P (suc p) (c ∷ cs) = At P p cs

-- the cell at q has the terminal x
abbrev pub TerminalAt : ℕ → ℕ → List Cell → Type 0
TerminalAt x q cs = At (λ c. c.terminal ≡ x) q cs

-- kept is a part of the set s, and a candidate with another terminal of s at q that has two trees
-- has a twin that shares its cells before q
pub record Renames (g : Rules) (s kept : ℕ) : Type 0 where
  pub part : (x : ℕ) → Among kept x → Among s x
  pub twin : (n q x : ℕ) (ds : List Cell) → Candidate (Among s) n ds → Among s x
      → (Among kept x → ⊥) → TerminalAt x q ds → TwoTrees g 0 (sentence ds) → Twin g s n q ds

-- each candidate that shares cs's first b cells has a twin in other positions, under every grammar
-- and over every set
pub record Slack (n b p : ℕ) (cs : List Cell) : Type 0 where
  pub replaceable : (g : Rules) (s : ℕ) → Replaceable g s n b p cs

-- or with another terminal, where `kept` has those that no smaller one replaces
pub record Passable (s kept n b p : ℕ) (cs : List Cell) : Type 0 where
  pub replaceable : (g : Rules) → Renames g s kept → Replaceable g s n b p cs
