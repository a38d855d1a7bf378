-- The finished table. For the contracts of inner functions only.
use Rattle.std.specs.Prelude.{◌≡◌, List, ℕ, ◌≤◌, length, get_or}
use Rattle.grammar.specs.Trees.{Rules}
use Rattle.pair_steps.specs.Tables.{LowTable, SoundTable}
use Rattle.pair_steps.specs.Closing.{ClosedTable}
use Rattle.pair_nodes.specs.Slots.{NodesOf}
use Rattle.pair_entries.specs.Entries.{search_words}

-- the table has what may be, and no more
pub record TableOf (g : Rules) (t : List ℕ) : Type 0 where
  pub sound : SoundTable g t
  pub closed : ClosedTable g t
  pub low : LowTable t

-- the words are the table of each sheet of which these are the nodes; those past the words that the
-- search needs are as they were
pub record FilledTable (nodes old new : List ℕ) : Type 0 where
  pub size : length new ≡ length old
  pub past : (i : ℕ) → search_words ≤ i → get_or new i 0 ≡ get_or old i 0
  pub table : (g : Rules) → NodesOf g nodes → TableOf g new
