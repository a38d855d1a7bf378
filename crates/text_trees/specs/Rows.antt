-- What the program `calls` writes for `rows`: the answer and its line, then `first second` and the
-- two counts.
use Rattle.std.specs.Prelude.{◌≡◌, List, [], ◌∷◌, ◌++◌, ℕ, length, Option, Some, None, Result}
use Rattle.printing.specs.Printing.{decimal}
use Rattle.sheets.specs.declared.Answer.{Answer}
use Rattle.text.specs.Output.{answer_text, head}
use Rattle.sheets.specs.declared.Refusal.{Refusal}
use Rattle.sheets.specs.Results.{told_line}
use Rattle.call_rows.specs.declared.CountedRows.{CountedRows}
use Rattle.call_rows.specs.Rows.{RowsOf, rows_told, first_count, second_count}

-- a count; above 4,294,967,295 the word `more`
abbrev pub count_text : Option ℕ → List ℕ
count_text (Some c) = decimal c
count_text None = 109 ∷ 111 ∷ 114 ∷ 101 ∷ []

-- the line `first second`
abbrev pub count_names : List ℕ
count_names = 102 ∷ 105 ∷ 114 ∷ 115 ∷ 116 ∷ 32 ∷ 115 ∷ 101 ∷ 99 ∷ 111 ∷ 110 ∷ 100 ∷ 10 ∷ []

-- that line and the two counts
unfoldable pub count_lines : Option ℕ → Option ℕ → List ℕ
count_lines m n = count_names ++ (count_text m ++ ((32 ∷ []) ++ (count_text n ++ (10 ∷ []))))

-- nothing for a refusal
abbrev pub rows_text : Answer → Option ℕ → Option ℕ → List ℕ
rows_text Answer.None m n = count_lines m n
rows_text Answer.One m n = count_lines m n
rows_text Answer.Two m n = count_lines m n
rows_text Answer.Clear m n = []
rows_text Answer.Given m n = []
rows_text (Answer.Refused f) m n = []

-- the output for two sheets; it lends words enough for 64 tokens
pub data RowsTextOf (rules tokens text : List ℕ) : Type 0 where
  answered : {words words' : List ℕ} {r : Result CountedRows Refusal} → length words ≡ 4162
      → RowsOf rules tokens words words' r
      → text ≡ head (answer_text (rows_told r)) (told_line r) ++ rows_text (rows_told r)
      (first_count r) (second_count r) → RowsTextOf rules tokens text
