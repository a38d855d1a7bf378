-- Rules of which no two are alike: what refusal 5 sees to (for inner functions; the refusal itself
-- is said by `lines/specs/Keys.antt`).
use Rattle.std.specs.Prelude.{◌≡◌, ℕ}
use Rattle.grammar.specs.declared.Clause.{Clause}
use Rattle.grammar.specs.Trees.{Covers, Rules}
use Rattle.std.proofs.Math.Option.{some}
use Rattle.std.proofs.Math.ListN.{get_elem?}
use Rattle.grammar.specs.declared.Rule.{Rule}

-- two clauses have the same kind, first and second, under any lay; two of kind A share a terminal
abbrev pub Alike : Clause → Clause → Type 0
Alike Clause.Empty Clause.Empty = Unit {0}
Alike Clause.Empty (Clause.Atom c d) = ⊥
Alike Clause.Empty (Clause.Unary B n) = ⊥
Alike Clause.Empty (Clause.Binary B C n) = ⊥
Alike (Clause.Atom a b) Clause.Empty = ⊥
Alike (Clause.Atom a b) (Clause.Atom c d) = (x : ℕ) × Covers a b x × Covers c d x
Alike (Clause.Atom a b) (Clause.Unary B n) = ⊥
Alike (Clause.Atom a b) (Clause.Binary B C n) = ⊥
Alike (Clause.Unary A m) Clause.Empty = ⊥
Alike (Clause.Unary A m) (Clause.Atom c d) = ⊥
Alike (Clause.Unary A m) (Clause.Unary B n) = A ≡ B
Alike (Clause.Unary A m) (Clause.Binary B C n) = ⊥
Alike (Clause.Binary A D m) Clause.Empty = ⊥
Alike (Clause.Binary A D m) (Clause.Atom c d) = ⊥
Alike (Clause.Binary A D m) (Clause.Unary B n) = ⊥
Alike (Clause.Binary A D m) (Clause.Binary B C n) = (A ≡ B) × (D ≡ C)

-- no two rules of one left are alike: what refusal 5 keeps off
pub record Distinct (g : Rules) : Type 0 where
  pub one : (p q : ℕ) (r s : Rule) → get_elem? g p ≡ some r → get_elem? g q ≡ some s
      → r.left ≡ s.left → Alike r.clause s.clause → p ≡ q
