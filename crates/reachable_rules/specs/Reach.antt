-- The nonterminals that 0 reaches by rules, and the rules of these.
use mathlib.Core.List.{Memᴰ}
use Rattle.std.specs.Prelude.{ℕ}
use Rattle.grammar.specs.declared.Rule.{Rule}
use Rattle.grammar.specs.declared.UnaryMark.{UnaryMark}
use Rattle.grammar.specs.declared.BinaryMark.{BinaryMark}
use Rattle.grammar.specs.Trees.{Rules, HasUnary, HasBinary}
use Rattle.grammar.specs.Distinct.{Distinct}

-- 0 reaches itself, and what a rule of a nonterminal that it reaches has
pub data Reached (g : Rules) : ℕ → Type 0 where
  start : Reached g 0
  by_unary : {A B : ℕ} (m : UnaryMark) → Reached g A → HasUnary g A B m → Reached g B
  by_left : {A B : ℕ} (C : ℕ) (m : BinaryMark) → Reached g A → HasBinary g A B C m → Reached g B
  by_right : {A C : ℕ} (B : ℕ) (m : BinaryMark) → Reached g A → HasBinary g A B C m → Reached g C

-- g' has the rules of g whose left 0 reaches, and no two alike if g has none
pub record Trimmed (g g' : Rules) : Type 0 where
  pub keeps : (r : Rule) → Memᴰ r g → Reached g r.left → Memᴰ r g'
  pub of : (r : Rule) → Memᴰ r g' → Memᴰ r g
  pub only : (r : Rule) → Memᴰ r g' → Reached g r.left
  pub distinct : Distinct g → Distinct g'
