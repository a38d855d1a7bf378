-- What the C function for places hands over.
use Rattle.std.specs.Prelude.{Result}
use Rattle.sheets.specs.declared.Refusal.{Refusal}
use Rattle.sheets.specs.Results.{told_line}
use Rattle.call_places.specs.declared.ListedPlaces.{ListedPlaces}
use Rattle.call_places.specs.Places.{places_told, places_count}
use Rattle.std.specs.Prelude.{◌≡◌, List, [], ◌∷◌, ℕ}
use Rattle.c_words.specs.Codes.{packed}
use Rattle.c_words.specs.Words.{AtFront}
use Rattle.call_places.specs.Places.{PlacesOf}

-- `teplonga_places` hands over what `places` answers, and the number of entries in a word
pub record PlacesWord (rules tokens words words' list list' count count' : List ℕ) (r : ℕ) : Type
    0 where
  pub reply : Result ListedPlaces Refusal
  pub promise : PlacesOf rules tokens words words' list list' reply
  pub entries : AtFront 1 (places_count reply ∷ []) count count'
  pub word : r ≡ packed (places_told reply) (told_line reply)
