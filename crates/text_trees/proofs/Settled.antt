-- The promises of the texts of `rows` and `places` settle the whole output.
use mathlib.Core.Path.{◌≡◌, sym, ap, ◌∙◌}
use mathlib.Core.List.{List, ◌++◌}
use Prim.Native.Nat.{ℕ}
use Rattle.call_places.proofs.Settled.{places_reply}
use Rattle.std.specs.Prelude.{Result}
use Rattle.sheets.specs.declared.Refusal.{Refusal}
use Rattle.sheets.specs.Results.{told_line}
use Rattle.call_places.specs.Places.{places_told}
use Rattle.call_rows.specs.declared.CountedRows.{CountedRows}
use Rattle.call_rows.specs.Rows.{rows_told, first_count, second_count}
use Rattle.call_rows.proofs.Settled.{rows_reply}
use Rattle.text.specs.Output.{answer_text, head}
use Rattle.text_trees.specs.Places.{places_text, PlacesTextOf}
use Rattle.text_trees.specs.Places as Places
use Rattle.text_trees.specs.Rows.{rows_text, RowsTextOf}
use Rattle.text_trees.specs.Rows as Rows

pub rows_text_settled : {rules tokens a b : List ℕ} → RowsTextOf rules tokens a
    → RowsTextOf rules tokens b → a ≡ b
rows_text_settled (Rows.answered l x p) (Rows.answered m y q) =
    p ∙ ap (λ (r : Result CountedRows Refusal). head (answer_text (rows_told r)) (told_line r)
    ++ rows_text (rows_told r) (first_count r) (second_count r)) (rows_reply (l ∙ sym m) x y)
    ∙ sym q

pub places_text_settled : {rules tokens a b : List ℕ} → PlacesTextOf rules tokens a
    → PlacesTextOf rules tokens b → a ≡ b
places_text_settled (Places.answered {list' = m} l k x p) (Places.answered {list' = n} l' k' y q) =
    let z = places_reply m n (l ∙ sym l') (k ∙ sym k') x y in
    p ∙ (λ i. head (answer_text (places_told (z.0 i))) (told_line (z.0 i))
    ++ places_text (places_told (z.0 i)) (z.1 i)) ∙ sym q
