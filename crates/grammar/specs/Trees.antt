-- Trees, their words and their validity: the paper, section 3, "Parse trees" and
-- "Derivation ambiguity".
use Rattle.std.specs.Prelude.{◌≡◌, ℕ, ◌≤◌}
use mathlib.Core.List.{List, [], ◌∷◌, ◌++◌, Memᴰ}
use Rattle.grammar.specs.declared.Token.{Token}
use Rattle.grammar.specs.declared.UnaryMark.{UnaryMark}
use Rattle.grammar.specs.declared.BinaryMark.{BinaryMark}
use Rattle.grammar.specs.declared.Rule.{Rule}
use Rattle.grammar.specs.declared.Clause.TheVariants as Clause
use Rattle.grammar.specs.Layout.{Word}
use Rattle.grammar.specs.Layout as Mark

-- an empty node, a leaf, a unary or a binary node, each with its nonterminal
pub data Tree : Type 0 where
  empty : ℕ → Tree
  leaf : ℕ → Token → Tree
  unary : ℕ → Tree → Tree
  binary : ℕ → Tree → Tree → Tree
  deriving Discrete as Tree-discrete

-- root(t)
abbrev pub root : Tree → ℕ
root (empty A) = A
root (leaf A t) = A
root (unary A t) = A
root (binary A s t) = A

-- word(t)
abbrev pub word : Tree → Word
word (empty A) = []
word (leaf A t) = t ∷ []
word (unary A t) = word t
word (binary A s t) = word s ++ word t

-- the rules of a sheet, in its order
abbrev pub Rules : Type 0
Rules = List Rule

-- x is one of the terminals from a to b, both included
pub record Covers (a b x : ℕ) : Type 0 where
  pub low : a ≤ x
  pub high : x ≤ b

-- the sheet has the rule A → ε, an A rule of A that covers the terminal x, the rule A → B with a
-- mark, A → B C with a mark
abbrev pub HasEmpty : Rules → ℕ → Type 0
HasEmpty g A = Memᴰ (record { left = A; clause = Clause.Empty }) g

pub record HasAtom (g : Rules) (A x : ℕ) : Type 0 where
  pub low : ℕ
  pub high : ℕ
  pub rule : Memᴰ (record { left = A; clause = Clause.Atom low high }) g
  pub covers : Covers low high x

abbrev pub HasUnary : Rules → ℕ → ℕ → UnaryMark → Type 0
HasUnary g A B m = Memᴰ (record { left = A; clause = Clause.Unary B m }) g

abbrev pub HasBinary : Rules → ℕ → ℕ → ℕ → BinaryMark → Type 0
HasBinary g A B C m = Memᴰ (record { left = A; clause = Clause.Binary B C m }) g

-- a tree is valid if each node follows a rule and the marks hold of the words below
pub data Valid (g : Rules) : Tree → Type 0 where
  valid_empty : {A : ℕ} → HasEmpty g A → Valid g (empty A)
  valid_leaf : {A : ℕ} {t : Token} → HasAtom g A t.terminal → Valid g (leaf A t)
  valid_unary : {A : ℕ} {t : Tree} (m : UnaryMark) → HasUnary g A (root t) m → Mark.Unary m (word t)
      → Valid g t → Valid g (unary A t)
  valid_binary : {A : ℕ} {s t : Tree} (m : BinaryMark) → HasBinary g A (root s) (root t) m
      → Mark.Binary m (word s) (word t) → Valid g s → Valid g t → Valid g (binary A s t)

-- t is a valid tree of A over w (the paper: t witnesses that A derives w)
pub record Witness (g : Rules) (A : ℕ) (w : Word) (t : Tree) : Type 0 where
  pub rooted : root t ≡ A
  pub spelled : word t ≡ w
  pub valid : Valid g t

-- A has a valid tree over w
pub record Derives (g : Rules) (A : ℕ) (w : Word) : Type 0 where
  pub tree : Tree
  pub witness : Witness g A w tree

-- none: A has no valid tree over w
pub record NoTree (g : Rules) (A : ℕ) (w : Word) : Type 0 where
  pub absent : (t : Tree) → Witness g A w t → ⊥

-- one: A has just one
pub record OneTree (g : Rules) (A : ℕ) (w : Word) : Type 0 where
  pub tree : Tree
  pub witness : Witness g A w tree
  pub only : (t : Tree) → Witness g A w t → t ≡ tree

-- two: A has at least two, which differ
pub record TwoTrees (g : Rules) (A : ℕ) (w : Word) : Type 0 where
  pub first : Tree
  pub second : Tree
  pub witness₁ : Witness g A w first
  pub witness₂ : Witness g A w second
  pub differ : first ≡ second → ⊥
