-- What a node that has tokens can look like.
use Rattle.std.specs.Prelude.{◌≡◌, List, [], ◌∷◌, ℕ}
use Rattle.std.proofs.Math.Option.{some}
use Rattle.std.proofs.Math.ListN.{get_elem?}
use Rattle.grammar.specs.declared.UnaryMark.{UnaryMark}
use Rattle.grammar.specs.declared.BinaryMark.{BinaryMark}
use Rattle.grammar.specs.declared.Clause.{Clause}
use Rattle.grammar.specs.Trees.{Rules}
use Rattle.grammar.specs.Cycles.{Nullable}
use Rattle.pairs.specs.Survey.{Productive, Inherits}

-- a leaf with its rule's terminals; a node over one child that has tokens, whose word keeps two
-- marks; a node over two that have tokens, with the mark between them and the mark of the whole
-- word
pub data Form : Type 0 where
  tip : ℕ → ℕ → Form
  one : ℕ → UnaryMark → UnaryMark → Form
  two : ℕ → ℕ → BinaryMark → UnaryMark → Form

-- the rule's place, and which children have tokens: all that it has, or of two the first or the
-- second only
pub data Shape : Type 0 where
  all : ℕ → Shape
  first : ℕ → Shape
  second : ℕ → Shape

abbrev pub rule_of_shape : Shape → ℕ
rule_of_shape (all p) = p
rule_of_shape (first p) = p
rule_of_shape (second p) = p

abbrev pub RuleAt : Rules → ℕ → ℕ → Clause → Type 0
RuleAt g p A c = get_elem? g p ≡ some (record { left = A; clause = c })

-- the shapes of A and what they look like under an inherited mark
pub data HasForm (g : Rules) : ℕ → Shape → Form → Type 0 where
  tips : {A p a b : ℕ} {l : UnaryMark} → Inherits g A l → RuleAt g p A (Clause.Atom a b)
      → HasForm g A (all p) (tip a b)
  units : {A p C : ℕ} {l m : UnaryMark} → Inherits g A l → RuleAt g p A (Clause.Unary C m)
      → Productive g C → HasForm g A (all p) (one C l m)
  twos : {A p C D : ℕ} {l : UnaryMark} {m : BinaryMark}
      → Inherits g A l → RuleAt g p A (Clause.Binary C D m)
      → Productive g C → Productive g D → HasForm g A (all p) (two C D m l)
  firsts : {A p C D : ℕ} {l : UnaryMark} {m : BinaryMark}
      → Inherits g A l → RuleAt g p A (Clause.Binary C D m)
      → Productive g C → Nullable g D → HasForm g A (first p) (one C l UnaryMark.None)
  seconds : {A p C D : ℕ} {l : UnaryMark} {m : BinaryMark}
      → Inherits g A l → RuleAt g p A (Clause.Binary C D m)
      → Nullable g C → Productive g D → HasForm g A (second p) (one D l UnaryMark.None)

-- a node by its nonterminal, its shape and its form
pub record Head : Type 0 where
  pub sort : ℕ
  pub shape : Shape
  pub form : Form

-- the nonterminals of the children that have tokens
abbrev pub children : Form → List ℕ
children (tip a b) = []
children (one C l k) = C ∷ []
children (two C D k l) = C ∷ D ∷ []
