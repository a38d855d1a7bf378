-- What a sweep up to the bound k says: docs/FORMAT.md, "The sweep", and the number that refusal 24
-- judges.
use Rattle.std.specs.Prelude.{Bool, false, cond, ◌||◌, ◌&&◌, List, [], ◌∷◌, ℕ, zero, suc, ◌+◌, ◌-◌}
use Rattle.std.specs.Prelude.{◌*◌, ◌^◌, ◌≤◌, length, leb}
use Rattle.grammar.specs.declared.Cell.{Cell}
use Rattle.grammar.specs.declared.Clause.{Clause}
use Rattle.grammar.specs.Layout.{Word}
use Rattle.grammar.specs.Trees.{Rules, TwoTrees}
use Rattle.grammar.specs.Candidates.{Rising, Wide, sentence, Terminal, Candidate, Earlier}

-- clear: no sequence of 1 to k tokens has two trees, whatever its terminals, lines, columns and
-- widths
pub record Clear (g : Rules) (k : ℕ) : Type 0 where
  pub absent : (w : Word) → Wide w → Rising w → 1 ≤ length w → length w ≤ k → TwoTrees g 0 w → ⊥

-- two: cs is the first candidate of length 1 to k that has two trees
pub record FirstTwo (g : Rules) (k : ℕ) (cs : List Cell) : Type 0 where
  pub low : 1 ≤ length cs
  pub high : length cs ≤ k
  pub candidate : Candidate (Terminal g) (length cs) cs
  pub two : TwoTrees g 0 (sentence cs)
  pub earlier : (ds : List Cell) → 1 ≤ length ds → Candidate (Terminal g) (length ds) ds
      → Earlier ds cs → TwoTrees g 0 (sentence ds) → ⊥

-- the answer of a sweep
pub data SweepAnswer : Type 0 where
  clear : SweepAnswer
  found : List Cell → SweepAnswer

-- the clause is of kind A and covers the terminal x
abbrev pub is_atom_of : ℕ → Clause → Bool
is_atom_of x Clause.Empty = false
is_atom_of x (Clause.Atom a b) = leb a x && leb x b
is_atom_of x (Clause.Unary B m) = false
is_atom_of x (Clause.Binary B C m) = false

-- an A rule covers a
abbrev pub stands : Rules → ℕ → Bool
stands [] a = false
stands (r ∷ g) a = is_atom_of a r.clause || stands g a

-- how many of the terminals below n are covered by A rules
abbrev pub terminals_below : Rules → ℕ → ℕ
terminals_below g zero = 0
terminals_below g (suc n) = cond (stands g n) 1 0 + terminals_below g n

-- T: the different terminals that the sheet's A rules cover
abbrev pub terminal_count : Rules → ℕ
terminal_count g = terminals_below g 64

-- T^k × 3^(k−1) × k^k
unfoldable pub arrangements : ℕ → ℕ → ℕ
arrangements t k = t ^ k * 3 ^ (k - 1) * k ^ k
