-- How many rows each tree has, and what an answer says of such a number: docs/FORMAT.md, "Calls and
-- lent memory".
use Rattle.std.specs.Prelude.{◌≡◌, ℕ, ◌≤◌, ◌<◌, Option, Some, None}
use Rattle.grammar.specs.Layout.{Word}
use Rattle.grammar.specs.Trees.{Tree, Rules, NoTree, OneTree, TwoTrees}
use Rattle.grammar.specs.Choices.{FirstTree, SecondTree}
use Rattle.grammar.specs.Rows.{row_count}

-- m and n are the row counts of the first and the second tree of w, 0 for one that the verdict
-- lacks
pub data Counted (g : Rules) (w : Word) (m n : ℕ) : Type 0 where
  treeless : NoTree g 0 w → m ≡ 0 → n ≡ 0 → Counted g w m n
  single : {t : Tree} → OneTree g 0 w → FirstTree g 0 w t → m ≡ row_count t → n ≡ 0
      → Counted g w m n
  both : {t u : Tree} → TwoTrees g 0 w → FirstTree g 0 w t → SecondTree g 0 w u → m ≡ row_count t
      → n ≡ row_count u → Counted g w m n

-- counts are exact up to 4,294,967,295, and none is told above
abbrev pub Tells : Option ℕ → ℕ → Type 0
Tells (Some c) n = (c ≡ n) × (n ≤ 4294967295)
Tells None n = 4294967295 < n
