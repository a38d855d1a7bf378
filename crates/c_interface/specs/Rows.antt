-- What the C function for row counts hands over.
use Rattle.std.specs.Prelude.{Result}
use Rattle.sheets.specs.declared.Refusal.{Refusal}
use Rattle.sheets.specs.Results.{told_line}
use Rattle.call_rows.specs.declared.CountedRows.{CountedRows}
use Rattle.call_rows.specs.Rows.{rows_told, first_count, second_count}
use Rattle.std.specs.Prelude.{◌≡◌, List, ℕ}
use Rattle.c_words.specs.Codes.{packed}
use Rattle.c_words.specs.Words.{AtFront, count_word, count_words}
use Rattle.call_rows.specs.Rows.{RowsOf}

-- `teplonga_rows` hands over what `rows` answers, and the row counts in words
pub record RowsWord (rules tokens words words' counts counts' : List ℕ) (r : ℕ) : Type 0 where
  pub reply : Result CountedRows Refusal
  pub promise : RowsOf rules tokens words words' reply
  pub rows : AtFront 2 (count_words (count_word (first_count reply))
      (count_word (second_count reply))) counts
      counts'
  pub word : r ≡ packed (rows_told reply) (told_line reply)
