-- The walk along the nodes of a first tree that have tokens. For the contracts of inner functions
-- only.
use Rattle.std.specs.Prelude.{◌≡◌, List, ℕ, ◌+◌, ◌-◌, ◌<◌, get_or, Option, Some, None}
use Rattle.grammar.specs.Layout.{Word}
use Rattle.grammar.specs.Trees.{Tree, Rules}
use Rattle.grammar.specs.Choices.{FirstTree}
use Rattle.rows.specs.declared.Kind.{Kind}
use Rattle.row_counts.specs.declared.Below.{Below}
use Rattle.row_counts.specs.Capped.{capped}

-- A has a first tree of w
pub record FirstThere (g : Rules) (A : ℕ) (w : Word) : Type 0 where
  pub tree : Tree
  pub first : FirstTree g A w tree

-- r is the row of a node over l tokens with children B and C and k tokens on its left, and the rows
-- of a child over the empty word
pub record OwnTwo (z : List ℕ) (B C k l r : ℕ) : Type 0 where
  pub left : k ≡ 0 → r ≡ capped (1 + get_or z B 0)
  pub right : 0 < k → k ≡ l → r ≡ capped (1 + get_or z C 0)
  pub inner : 0 < k → (k ≡ l → ⊥) → r ≡ 1

-- the same of a node of any kind
abbrev pub Own : List ℕ → Kind → ℕ → ℕ → Type 0
Own z Kind.Empty l r = r ≡ 1
Own z Kind.Atom l r = r ≡ 1
Own z (Kind.Unary B) l r = r ≡ 1
Own z (Kind.Binary B C k) l r = OwnTwo z B C k l r
Own z Kind.Closed l r = r ≡ 1

-- nothing lies beneath the node
abbrev pub Leaf : Kind → Type 0
Leaf Kind.Empty = Unit {0}
Leaf Kind.Atom = Unit {0}
Leaf (Kind.Unary B) = ⊥
Leaf (Kind.Binary B C k) = ⊥
Leaf Kind.Closed = Unit {0}

-- d is what lies beneath a node over l tokens with children B and C and k tokens on its left
pub record UnderTwo (B C k l : ℕ) (d : Below) : Type 0 where
  pub left : k ≡ 0 → d ≡ record { first = record { name = C; long = l - k }; right = None }
  pub right : 0 < k → k ≡ l → d ≡ record { first = record { name = B; long = k }; right = None }
  pub inner : 0 < k → (k ≡ l → ⊥) → d ≡ record {
    first = record { name = B; long = k };
    right = Some (record { name = C; long = l - k });
  }

-- the same of a node of any kind but a leaf
abbrev pub Under : Kind → ℕ → Below → Type 0
Under Kind.Empty l d = ⊥
Under Kind.Atom l d = ⊥
Under (Kind.Unary B) l d = d ≡ record { first = record { name = B; long = l }; right = None }
Under (Kind.Binary B C k) l d = UnderTwo B C k l d
Under Kind.Closed l d = ⊥

abbrev pub Down : Kind → ℕ → Option Below → Type 0
Down kind l None = Leaf kind
Down kind l (Some d) = Under kind l d
