-- What the program `calls` writes for `places`: the answer and its line, then, for two, `left start
-- length` and a line a place.
use Rattle.std.specs.Prelude.{◌≡◌, List, [], ◌∷◌, ◌++◌, ℕ, ◌*◌, length, take, Result}
use Rattle.printing.specs.Printing.{field, last_field}
use Rattle.sheets.specs.declared.Answer.{Answer}
use Rattle.text.specs.Output.{answer_text, head}
use Rattle.sheets.specs.declared.Refusal.{Refusal}
use Rattle.sheets.specs.Results.{told_line}
use Rattle.call_places.specs.declared.ListedPlaces.{ListedPlaces}
use Rattle.call_places.specs.Places.{PlacesOf, places_told, places_count}

-- the line of a place: nonterminal, start, length
unfoldable pub place_text : ℕ → ℕ → ℕ → List ℕ
place_text A s n = field A ++ (field s ++ last_field n)

-- the lines of places, three bytes each
abbrev pub place_lines : List ℕ → List ℕ
place_lines [] = []
place_lines (A ∷ []) = []
place_lines (A ∷ s ∷ []) = []
place_lines (A ∷ s ∷ n ∷ rest) = place_text A s n ++ place_lines rest

-- the line `left start length`
abbrev pub place_names : List ℕ
place_names =
    108 ∷ 101 ∷ 102 ∷ 116 ∷ 32 ∷ 115 ∷ 116 ∷ 97 ∷ 114 ∷ 116 ∷ 32 ∷ 108 ∷ 101 ∷ 110 ∷ 103 ∷ 116 ∷ 104
    ∷ 10 ∷ []

-- only for two
abbrev pub places_text : Answer → List ℕ → List ℕ
places_text Answer.None list = []
places_text Answer.One list = []
places_text Answer.Two list = place_names ++ place_lines list
places_text Answer.Clear list = []
places_text Answer.Given list = []
places_text (Answer.Refused f) list = []

-- the output for two sheets; it lends words enough for 64 tokens, and 16,384 places
pub data PlacesTextOf (rules tokens text : List ℕ) : Type 0 where
  answered : {words words' list list' : List ℕ} {r : Result ListedPlaces Refusal}
      → length words ≡ 4162
      → length list ≡ 3 * 16384 → PlacesOf rules tokens words words' list list' r
      → text ≡ head (answer_text (places_told r)) (told_line r) ++ places_text (places_told r)
      (take (3 * places_count r) list') → PlacesTextOf rules tokens text
