-- The list of a sheet's doubts, given in lent bytes. For the contracts of inner functions only.
use Rattle.std.specs.Prelude.{List, ℕ, length}
use Rattle.grammar.specs.Trees.{Rules}
use Rattle.std.specs.Prelude.{Option}
use Rattle.lists.specs.Lists.{bytes_of, GivesList}
use Rattle.lists.specs.Putting.{listed, unfit}
use Rattle.pairs.specs.Doubts.{Doubt, AllDoubts}
use Rattle.doubt_list.specs.Entries.{doubt_bytes}

pub record DoubtsGiven (g : Rules) (lent lent' : List ℕ) (r : Option ℕ) : Type 0 where
  pub entries : List Doubt
  pub doubts : AllDoubts g entries
  pub gives : GivesList listed unfit (bytes_of doubt_bytes entries) (length entries) lent lent' r
