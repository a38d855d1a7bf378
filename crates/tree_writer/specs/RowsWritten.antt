-- One tree in one memory (inner: the contract of `write`).
use Rattle.std.specs.Prelude.{◌≡◌, List, ℕ, ◌≤◌, ◌<◌, Option, Some, None}
use Rattle.std.proofs.Math.Option.{none, some}
use Rattle.grammar.specs.Trees.{Tree}
use Rattle.tree_view.specs.Shown.{View, shown_count}
use Rattle.tree_writer.specs.Written.{row_room, seen_by, filled}

-- the memory l has become m, with the rows shown of u, r of them; zeros and none where they do not
-- fit
pub record RowsWritten (sees : View) (u : Tree) (l m : List ℕ) (r : Option ℕ) : Type 0 where
  pub enough : shown_count sees u ≤ row_room l
      → (m ≡ filled (seen_by sees) l (some u)) × (r ≡ Some (shown_count sees u))
  pub short : row_room l < shown_count sees u → (m ≡ filled (seen_by sees) l none) × (r ≡ None)
