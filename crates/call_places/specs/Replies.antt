-- The empty list, and the reply on a list. For the contracts of inner functions only.
use Rattle.std.specs.Prelude.{List, [], ℕ, Option, Some, None, Result}
use Rattle.lists.specs.Lists.{GivesList}
use Rattle.lists.specs.Putting.{listed, unfit}
use Rattle.sheets.specs.declared.Fault.TheVariants as Fault
use Rattle.sheets.specs.declared.Refusal.{Refusal}
use Rattle.sheets.specs.Results.{refusal}
use Rattle.grammar.specs.declared.Verdict.{Verdict}
use Rattle.call_places.specs.declared.ListedPlaces.{ListedPlaces}
use Rattle.call_places.specs.Places.{places_reply_of}

abbrev pub NothingGiven : List ℕ → List ℕ → Option ℕ → Type 0
NothingGiven lent lent' r = GivesList listed unfit [] 0 lent lent' r

-- the number of entries, or refusal 22
abbrev pub replied : Verdict → Option ℕ → Result ListedPlaces Refusal
replied v (Some n) = places_reply_of v n
replied v None = refusal Fault.FewRows 0
