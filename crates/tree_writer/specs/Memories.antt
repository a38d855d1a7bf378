-- Both tree memories, and the row counts (for inner functions).
use Rattle.std.specs.Prelude.{◌≡◌, Bool, true, false, List, ◌⊎◌, ℕ, ◌≤◌, ◌<◌}
use Rattle.std.specs.Prelude.{Option as Maybe, Some, None}
use Rattle.std.proofs.Math.Option.{Option, none, some}
use Rattle.grammar.specs.Layout.{Word}
use Rattle.grammar.specs.Trees.{Tree, Rules}
use Rattle.grammar.specs.Choices.{SecondTree}
use Rattle.tree_writer.specs.declared.Counts.{Counts}
use Rattle.tree_writer.specs.Written.{Display, row_room, count_of, filled}

-- u is the second tree of A over w where there are two, and no tree otherwise
pub data SecondIf (g : Rules) (A : ℕ) (w : Word) : Bool → Option Tree → Type 0 where
  second : {u : Tree} → SecondTree g A w u → SecondIf g A w true (some u)
  no_second : SecondIf g A w false none

-- the memories l₁ and l₂ have become m₁ and m₂, and r is answered, where t and u are the trees of
-- the answer
pub record Written (dis : Display) (t u : Option Tree) (l₁ l₂ m₁ m₂ : List ℕ) (r : Maybe Counts)
    : Type 0 where
  -- the rows of both, and how many they are
  pub fits : count_of dis t ≤ row_room l₁ → count_of dis u ≤ row_room l₂
      → (m₁ ≡ filled dis l₁ t) × (m₂ ≡ filled dis l₂ u)
      × (r ≡ Some (record { first = count_of dis t; second = count_of dis u }))
  -- refusal 22: a tree of the answer has more rows than its memory has whole four-byte places; both
  -- tree memories are 0
  pub short : (row_room l₁ < count_of dis t) ⊎ (row_room l₂ < count_of dis u)
      → (m₁ ≡ filled dis l₁ none) × (m₂ ≡ filled dis l₂ none)
      × (r ≡ None)
