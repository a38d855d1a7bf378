-- The row counts of first trees over the empty word, one a nonterminal. For the contracts of inner
-- functions only.
use Rattle.std.specs.Prelude.{◌≡◌, Bool, true, false, List, [], ◌∷◌, ℕ, zero, suc, ◌+◌, ◌≤◌, ◌<◌}
use Rattle.std.specs.Prelude.{length, get_or}
use Rattle.grammar.specs.Layout.{Word}
use Rattle.grammar.specs.Trees.{Tree, empty, leaf, unary, binary, root, Rules, Derives}
use Rattle.grammar.specs.Choices.{FirstTree}
use Rattle.grammar.specs.Rows.{row_count}
use Rattle.rows.specs.declared.Kind.{Kind}
use Rattle.row_counts.specs.Capped.{capped}

-- what derives a word has a first tree of it
pub record HasFirsts (g : Rules) : Type 0 where
  pub first : (A : ℕ) (w : Word) → Derives g A w → (t : Tree) × FirstTree g A w t

-- the numbers z are the counts
pub record Nulls (g : Rules) (z : List ℕ) : Type 0 where
  pub long : length z ≡ 64
  pub small : (A : ℕ) → get_or z A 0 ≤ 4294967296
  pub count : (A : ℕ) (t : Tree) → A < 64 → FirstTree g A [] t → get_or z A 0 ≡ capped (row_count t)

-- those that are not 0 are
pub record Sound (g : Rules) (z : List ℕ) : Type 0 where
  pub long : length z ≡ 64
  pub each : (A : ℕ) → 0 < get_or z A 0
      → (t : Tree) × FirstTree g A [] t × (get_or z A 0 ≡ capped (row_count t))

-- one more than the counts of the children; 0 where one is 0
abbrev pub one_more_of : ℕ → ℕ
one_more_of zero = 0
one_more_of (suc x) = capped (suc (suc x))

abbrev pub two_more_of : ℕ → ℕ → ℕ
two_more_of zero y = 0
two_more_of (suc x) zero = 0
two_more_of (suc x) (suc y) = capped (suc (suc x + suc y))

-- the count of a node of a kind, by those of its children
abbrev pub null_size : List ℕ → Kind → ℕ
null_size z Kind.Empty = 1
null_size z Kind.Atom = 1
null_size z (Kind.Unary B) = one_more_of (get_or z B 0)
null_size z (Kind.Binary B C k) = two_more_of (get_or z B 0) (get_or z C 0)
null_size z Kind.Closed = 1

-- the counts of the children are known
abbrev pub KidsKnown : List ℕ → Tree → Type 0
KidsKnown z (empty A) = Unit {0}
KidsKnown z (leaf A t) = Unit {0}
KidsKnown z (unary A t) = 0 < get_or z (root t) 0
KidsKnown z (binary A s t) = (0 < get_or z (root s) 0) × (0 < get_or z (root t) 0)

-- how many numbers are 0
abbrev pub one_if_zero : ℕ → ℕ
one_if_zero zero = 1
one_if_zero (suc n) = 0

abbrev pub zeros : List ℕ → ℕ
zeros [] = 0
zeros (x ∷ l) = one_if_zero x + zeros l

-- the nonterminals D were tried; r says that a number was found
pub record NullsTried (g : Rules) (D : ℕ → Type 0) (l m : List ℕ) (r : Bool) : Type 0 where
  pub sound : Sound g m
  pub found : r ≡ true → zeros m < zeros l
  pub same : r ≡ false → m ≡ l
  pub tried : r ≡ false → (A : ℕ) (t : Tree) → D A → FirstTree g A [] t → KidsKnown l t
      → 0 < get_or l A 0
