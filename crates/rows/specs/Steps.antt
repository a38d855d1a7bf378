-- What the writer has to know of a node, and the pending entries of its children. For the contracts
-- of inner functions only.
use Rattle.std.specs.Prelude.{◌≡◌, Bool, List, [], ◌∷◌, ◌++◌, ℕ, ◌+◌, ◌*◌, ◌-◌, ◌≤◌}
use Rattle.std.specs.Prelude.{◌<◌, length, take, drop}
use Rattle.grammar.specs.declared.Clause.{Clause}
use Rattle.rows.specs.declared.Kind.{Kind}
use Rattle.rows.specs.declared.Step.{Step}

-- the node of a rule with this clause and a left word of k tokens
abbrev pub clause_kind : Clause → ℕ → Kind
clause_kind Clause.Empty k = Kind.Empty
clause_kind (Clause.Atom a b) k = Kind.Atom
clause_kind (Clause.Unary B m) k = Kind.Unary B
clause_kind (Clause.Binary B C m) k = Kind.Binary B C k

-- its step
abbrev pub step_of_clause : Clause → ℕ → Bool → Step
step_of_clause c k seeking = record { kind = clause_kind c k; seeking = seeking }

-- the step of a closed node
abbrev pub closed_step : Bool → Step
closed_step seeking = record { kind = Kind.Closed; seeking = seeking }

-- the byte for its kind
abbrev pub kind_byte : Kind → ℕ
kind_byte Kind.Empty = 0
kind_byte Kind.Atom = 1
kind_byte (Kind.Unary B) = 2
kind_byte (Kind.Binary B C k) = 3
kind_byte Kind.Closed = 4

-- how many children of it are shown
abbrev pub kids_of : Kind → ℕ
kids_of Kind.Empty = 0
kids_of Kind.Atom = 0
kids_of (Kind.Unary B) = 1
kids_of (Kind.Binary B C k) = 2
kids_of Kind.Closed = 0

-- its children are nonterminals
abbrev pub KidsSmall : Kind → Type 0
KidsSmall Kind.Empty = Unit {0}
KidsSmall Kind.Atom = Unit {0}
KidsSmall (Kind.Unary B) = B < 64
KidsSmall (Kind.Binary B C k) = (B < 64) × (C < 64)
KidsSmall Kind.Closed = Unit {0}

-- the left word of two children is no longer than n
abbrev pub LeftWithin : Kind → ℕ → Type 0
LeftWithin Kind.Empty n = Unit {0}
LeftWithin Kind.Atom n = Unit {0}
LeftWithin (Kind.Unary B) n = Unit {0}
LeftWithin (Kind.Binary B C k) n = k ≤ n
LeftWithin Kind.Closed n = Unit {0}

-- the children's pending entries, four bytes each: nonterminal, start, length and a 0; the node has
-- a word of n tokens from i on
abbrev pub entries_of : Kind → ℕ → ℕ → List ℕ
entries_of Kind.Empty i n = []
entries_of Kind.Atom i n = []
entries_of (Kind.Unary B) i n = B ∷ i ∷ n ∷ 0 ∷ []
entries_of (Kind.Binary B C k) i n = B ∷ i ∷ k ∷ 0 ∷ C ∷ (i + k) ∷ (n - k) ∷ 0 ∷ []
entries_of Kind.Closed i n = []

-- there is room for the children's entries below place top, and their numbers are bytes
pub record Branches (out : List ℕ) (top i n : ℕ) (kind : Kind) : Type 0 where
  pub within : 4 * top ≤ length out
  pub room : kids_of kind ≤ top
  pub part : i + n ≤ 64
  pub less : LeftWithin kind n

-- k entries es are pushed: they stand from place r up to place top, and nothing else has changed
pub record Branched (l m : List ℕ) (top r k : ℕ) (es : List ℕ) : Type 0 where
  pub long : length m ≡ length l
  pub moved : r + k ≡ top
  pub low : (j : ℕ) → j ≤ r → take (4 * j) m ≡ take (4 * j) l
  pub high : drop (4 * r) m ≡ es ++ drop (4 * top) l
