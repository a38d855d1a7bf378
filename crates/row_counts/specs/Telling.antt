-- For inner functions: what is counted and told of the trees that are there.
use Rattle.std.specs.Prelude.{◌≡◌, Bool, true, false, ℕ, ◌≤◌}
use Rattle.grammar.specs.Layout.{Word}
use Rattle.grammar.specs.Trees.{Tree, Rules}
use Rattle.grammar.specs.Choices.{FirstTree, SecondTree}
use Rattle.grammar.specs.Rows.{row_count}
use Rattle.row_counts.specs.declared.RowCounts.{RowCounts}
use Rattle.row_counts.specs.Capped.{capped}
use Rattle.row_counts.specs.RowCounts.{Tells}

-- n is the capped count of the second tree's rows, where there are two, else 0
pub record SecondCounted (g : Rules) (w : Word) (two : Bool) (n : ℕ) : Type 0 where
  pub small : n ≤ 4294967296
  pub counted : two ≡ true → (u : Tree) → SecondTree g 0 w u → n ≡ capped (row_count u)
  pub lacking : two ≡ false → n ≡ 0

-- what is told of the first tree and, where there are two, of the second
pub record RowsTold (g : Rules) (w : Word) (two : Bool) (r : RowCounts) : Type 0 where
  pub first : (t : Tree) → FirstTree g 0 w t → Tells r.first (row_count t)
  pub second : two ≡ true → (u : Tree) → SecondTree g 0 w u → Tells r.second (row_count u)
  pub lacking : two ≡ false → Tells r.second 0
