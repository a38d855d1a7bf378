-- Predicates of inner functions only: what a rule adds to the nonterminals that 0 reaches, and the
-- rules picked so far.
use Rattle.std.specs.Prelude.{◌≡◌, ◌⊎◌, ℕ, ◌<◌, length, get_or}
use Rattle.sets.specs.Sets.{In}
use Rattle.grammar.specs.declared.Rule.{Rule}
use Rattle.grammar.specs.declared.Clause.{Clause}
use Rattle.grammar.specs.Trees.{Rules}
use Rattle.tables.specs.Tables.{no_rule}
use Rattle.grammar.specs.Distinct.{Distinct}

-- the clause has Y
abbrev pub HasPart : Clause → ℕ → Type 0
HasPart Clause.Empty Y = ⊥
HasPart (Clause.Atom a b) Y = ⊥
HasPart (Clause.Unary B m) Y = B ≡ Y
HasPart (Clause.Binary B C m) Y = (B ≡ Y) ⊎ (C ≡ Y)

-- the rule adds Y to what 0 reaches, s: its left is 0 or a member
abbrev pub AddsParts : ℕ → Rule → ℕ → Type 0
AddsParts s r Y = ((r.left ≡ 0) ⊎ In s r.left) × HasPart r.clause Y

-- out has those of the first i rules of g whose left is in s, each from a place of g
pub record Picked (g : Rules) (s i : ℕ) (out : Rules) : Type 0 where
  pub of : (p : ℕ) → p < length out
      → (q : ℕ) × (q < i) × (get_or out p no_rule ≡ get_or g q no_rule)
      × In s (get_or g q no_rule).left
  pub keeps : (q : ℕ) → q < i → In s (get_or g q no_rule).left
      → (p : ℕ) × (p < length out) × (get_or out p no_rule ≡ get_or g q no_rule)
  pub distinct : Distinct g → Distinct out
