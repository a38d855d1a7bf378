-- The promise of the call `places`: docs/FORMAT.md, "Calls and lent memory", on lists
-- that later calls give.
use Rattle.std.specs.Prelude.{◌≡◌, List, ℕ, Result, Ok, ◌<◌, length}
use Rattle.grammar.specs.Layout.{Word}
use Rattle.grammar.specs.Trees.{Rules}
use Rattle.lists.specs.Lists.{bytes_of, GivesList}
use Rattle.places.specs.Places.{Entry, AllPlaces, entry_bytes}
use Rattle.sheets.specs.Items.{accepted}
use Rattle.sheets.specs.declared.Fault.{Fault}
use Rattle.sheets.specs.Refusals.{number_of, RefusedAs}
use Rattle.sheets.specs.declared.Answer.{Answer}
use Rattle.sheets.specs.declared.Refusal.{Refusal}
use Rattle.sheets.specs.Results.{verdict_answer, refusal, told_answer, told_value}
use Rattle.grammar.specs.declared.Verdict.{Verdict}
use Rattle.grammar.specs.Verdicts.{Holds}
use Rattle.answering.specs.Answers.{sheets}
use Rattle.answering.specs.Verdict.{needed, SheetFilled}
use Rattle.call_places.specs.declared.ListedPlaces.{ListedPlaces}

-- the verdict, with the list's number of entries
abbrev pub places_reply_of : Verdict → ℕ → Result ListedPlaces Refusal
places_reply_of v n = Ok (record { verdict = v; count = n })

-- the answer on rules and a word that both sheets give
pub data PlacesOn (g : Rules) (w : Word) (words words' list list' : List ℕ)
    (r : Result ListedPlaces Refusal) : Type 0 where
  -- fewer words than the span sheet needs: nothing changes
  short : {f : Fault} → length words < needed w → number_of f ≡ 21
      → r ≡ refusal f 0 → words' ≡ words → list' ≡ list
      → PlacesOn g w words words' list list' r
  -- the verdict, the list of all places, three bytes an entry, or refusal 22 where it does not fit,
  -- and the span sheet filled
  listing : {v : Verdict} {f : Fault} {es : List Entry} → Holds v g 0 w → AllPlaces g w es
      → number_of f ≡ 22
      → GivesList (places_reply_of v) (refusal f 0) (bytes_of entry_bytes es) (length es)
      list
      list' r → SheetFilled g w words words' → PlacesOn g w words words' list list' r

-- what the call answers, and what it leaves of the lent words and of the lent bytes
pub data PlacesOf (rules tokens words words' list list' : List ℕ)
    (r : Result ListedPlaces Refusal) : Type 0 where
  -- a refused sheet: nothing changes
  refusing : {f : Fault} {l : ℕ} → RefusedAs (sheets rules tokens) f l
      → r ≡ refusal f l → words' ≡ words → list' ≡ list
      → PlacesOf rules tokens words words' list list' r
  reading : {g : Rules} {w : Word} → sheets rules tokens ≡ accepted (g, w)
      → PlacesOn g w words words' list list' r → PlacesOf rules tokens words words' list list' r

-- what the result tells: the verdict, and the list's number of entries; a refused call lists no
-- place
abbrev pub places_told : Result ListedPlaces Refusal → Answer
places_told r = told_answer (λ (t : ListedPlaces). verdict_answer t.verdict) r

abbrev pub places_count : Result ListedPlaces Refusal → ℕ
places_count r = told_value (λ (t : ListedPlaces). t.count) 0 r
