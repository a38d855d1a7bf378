-- Nullable nonterminals, edges, chains and cyclic sheets: docs/FORMAT.md, "Looping sheets".
use Rattle.std.specs.Prelude.{[], ℕ}
use Rattle.grammar.specs.declared.UnaryMark.{UnaryMark}
use Rattle.grammar.specs.declared.BinaryMark.{BinaryMark}
use Rattle.grammar.specs.Trees.{Rules, HasUnary, HasBinary, Derives}

-- nullable: has a valid tree of the empty word
abbrev pub Nullable : Rules → ℕ → Type 0
Nullable g A = Derives g A []

-- an edge runs from A to B if A has a U rule to B, or a B rule with B on one side and a nullable
-- nonterminal on the other
pub data Edge (g : Rules) : ℕ → ℕ → Type 0 where
  by_unary : {A B : ℕ} (m : UnaryMark) → HasUnary g A B m → Edge g A B
  by_left : {A B : ℕ} (C : ℕ) (m : BinaryMark) → HasBinary g A B C m → Nullable g C → Edge g A B
  by_right : {A C : ℕ} (B : ℕ) (m : BinaryMark) → HasBinary g A B C m → Nullable g B → Edge g A C

-- a chain of one or more edges
pub data Chain (g : Rules) : ℕ → ℕ → Type 0 where
  one : {A B : ℕ} → Edge g A B → Chain g A B
  more : {A B C : ℕ} → Edge g A B → Chain g B C → Chain g A C

-- a sheet is cyclic if some chain returns to where it began
pub record Cyclic (g : Rules) : Type 0 where
  pub start : ℕ
  pub returns : Chain g start start
