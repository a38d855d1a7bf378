-- What the C function for columns hands over.
use Rattle.std.specs.Prelude.{Result}
use Rattle.sheets.specs.declared.Refusal.{Refusal}
use Rattle.sheets.specs.Results.{told_line}
use Rattle.column_search.specs.declared.Flags.{Flags}
use Rattle.call_columns.specs.Columns.{columns_told, flags_of}
use Rattle.std.specs.Prelude.{◌≡◌, List, ℕ}
use Rattle.c_words.specs.Codes.{packed}
use Rattle.c_words.specs.Words.{AtFront, flag_words}
use Rattle.call_columns.specs.Columns.{ColumnsOf}

-- `teplonga_columns` hands over what `columns` answers, and the flags in three words
pub record ColumnsWord (rules ranges words words' found found' : List ℕ) (r : ℕ) : Type 0 where
  pub reply : Result Flags Refusal
  pub promise : ColumnsOf rules ranges words words' reply
  pub flags : AtFront 3 (flag_words (flags_of reply)) found found'
  pub word : r ≡ packed (columns_told reply) (told_line reply)
