-- Predicates of inner functions only: what a rule adds to a set, and a pass over the rules.
use Rattle.std.specs.Prelude.{◌≡◌, ◌⊎◌, ℕ, ◌≤◌, ◌<◌}
use mathlib.Core.List.{Memᴰ}
use Rattle.std.proofs.Math.Option.{some}
use Rattle.std.proofs.Math.ListN.{get_elem?}
use Rattle.sets.specs.Sets.{In}
use Rattle.grammar.specs.declared.Rule.{Rule}
use Rattle.grammar.specs.declared.Clause.{Clause}
use Rattle.grammar.specs.Trees.{Rules}

-- t is the set s with those besides that have P
pub record Extended (P : ℕ → Type 0) (s t : ℕ) : Type 0 where
  pub more : s ≤ t
  pub keeps : (Y : ℕ) → In s Y → In t Y
  pub adds : (Y : ℕ) → P Y → In t Y
  pub only : (Y : ℕ) → In t Y → In s Y ⊎ P Y

-- the first p of the rules g, each adding `Adds`, led from s to t: the members have P if those of s
-- have it, and where t is s no rule adds to s
pub record RulesPassed (Adds : ℕ → Rule → ℕ → Type 0) (P : ℕ → Type 0) (g : Rules)
    (p s t : ℕ) : Type
    0 where
  pub more : s ≤ t
  pub sound : ((Y : ℕ) → In s Y → P Y) → (Y : ℕ) → In t Y → P Y
  pub still : t ≡ s → (q : ℕ) → q < p → (r : Rule) → get_elem? g q ≡ some r → (Y : ℕ) → Adds s r Y
      → In s Y

-- the members of s have P, and no rule adds to it
pub record Closed (Adds : ℕ → Rule → ℕ → Type 0) (P : ℕ → Type 0) (g : Rules) (s : ℕ) : Type 0 where
  pub sound : (Y : ℕ) → In s Y → P Y
  pub shut : (r : Rule) → Memᴰ r g → (Y : ℕ) → Adds s r Y → In s Y

-- members of s make the clause's word empty
abbrev pub Ready : ℕ → Clause → Type 0
Ready s Clause.Empty = Unit {0}
Ready s (Clause.Atom a b) = ⊥
Ready s (Clause.Unary B m) = In s B
Ready s (Clause.Binary B C m) = In s B × In s C

-- the rule adds its left to the nullable nonterminals s
abbrev pub AddsLeft : ℕ → Rule → ℕ → Type 0
AddsLeft s r Y = (r.left ≡ Y) × Ready s r.clause

-- a rule with this clause has an edge to Y; ns are the nullable nonterminals
abbrev pub LeadsTo : ℕ → Clause → ℕ → Type 0
LeadsTo ns Clause.Empty Y = ⊥
LeadsTo ns (Clause.Atom a b) Y = ⊥
LeadsTo ns (Clause.Unary B m) Y = B ≡ Y
LeadsTo ns (Clause.Binary B C m) Y = ((B ≡ Y) × In ns C) ⊎ ((C ≡ Y) × In ns B)

-- the rule adds Y to what chains from a reach, s: its left is a or a member
abbrev pub AddsTargets : ℕ → ℕ → ℕ → Rule → ℕ → Type 0
AddsTargets ns a s r Y = ((r.left ≡ a) ⊎ In s r.left) × LeadsTo ns r.clause Y
