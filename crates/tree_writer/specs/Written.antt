-- What a tree memory holds after a call for trees: docs/FORMAT.md, "Tree rows", and refusal 22; and
-- where a user sees a part of them, by the rows shown: docs/FORMAT.md, "Closed nodes".
use Rattle.std.specs.Prelude.{List, [], ◌++◌, ℕ, ◌*◌, ◌-◌, ◌/◌, length, replicate}
use Rattle.std.proofs.Math.Option.{Option, none, some}
use Rattle.grammar.specs.Trees.{Tree}
use Rattle.grammar.specs.Rows.{rows, row_count}
use Rattle.tree_view.specs.Shown.{View, shown_rows, shown_count}

-- how a tree of the answer is written: the bytes of its rows, and how many rows they are
pub record Display : Type 0 where
  pub bytes : Tree → List ℕ
  pub number : Tree → ℕ

-- all rows of the tree
abbrev pub in_full_of : Display
in_full_of = record { bytes = rows 0; number = row_count }

-- the rows shown to a user who may see this much
abbrev pub seen_by : View → Display
seen_by sees = record { bytes = shown_rows sees 0; number = shown_count sees }

-- the rows of a tree of the answer; with the verdict none there is neither tree, with one there is
-- no second
abbrev pub rows_of : Display → Option Tree → List ℕ
rows_of dis none = []
rows_of dis (some t) = dis.bytes t

-- their number, 0 for a tree not written
abbrev pub count_of : Display → Option Tree → ℕ
count_of dis none = 0
count_of dis (some t) = dis.number t

-- how many rows a memory has room for: its whole four-byte places
abbrev pub row_room : List ℕ → ℕ
row_room l = length l / 4

-- a memory as long as l with the rows at its front; bytes after the rows are 0
abbrev pub filled : Display → List ℕ → Option Tree → List ℕ
filled dis l t = rows_of dis t ++ replicate (length l - 4 * count_of dis t) 0
