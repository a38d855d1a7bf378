-- The list of all places of a word, given in lent bytes.
use Rattle.std.specs.Prelude.{List, ℕ, length}
use Rattle.grammar.specs.Layout.{Word}
use Rattle.grammar.specs.Trees.{Rules}
use Rattle.std.specs.Prelude.{Option}
use Rattle.lists.specs.Lists.{bytes_of, GivesList}
use Rattle.lists.specs.Putting.{listed, unfit}
use Rattle.places.specs.Places.{Entry, AllPlaces, entry_bytes}

pub record PlacesGiven (g : Rules) (w : Word) (lent lent' : List ℕ) (r : Option ℕ) : Type 0 where
  pub entries : List Entry
  pub places : AllPlaces g w entries
  pub gives : GivesList listed unfit (bytes_of entry_bytes entries) (length entries) lent lent' r
