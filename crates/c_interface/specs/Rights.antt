-- What the C functions on a shared tour hand over.
use Rattle.std.specs.Prelude.{Result}
use Rattle.sheets.specs.declared.Refusal.{Refusal}
use Rattle.sheets.specs.Results.{told_line}
use Rattle.answering.specs.Results.{trees_told, first_rows, second_rows}
use Rattle.list_answers.specs.Lists.{list_told, entry_count}
use Rattle.std.specs.Prelude.{◌≡◌, List, [], ◌∷◌, ℕ}
use Rattle.c_words.specs.Codes.{packed}
use Rattle.c_words.specs.Words.{AtFront, count_words}
use Rattle.answering.specs.declared.TreeRows.{TreeRows}
use Rattle.call_rights.specs.Show.{ShowOf}
use Rattle.call_rights.specs.Change.{ChangeOf}

-- `teplonga_show` hands over what `show` answers, and the numbers of rows shown in words
pub record ShowWord (rules tokens rights : List ℕ) (user : ℕ)
    (words words' one one' two two' counts counts' : List ℕ) (r : ℕ) : Type 0 where
  pub reply : Result TreeRows Refusal
  pub promise : ShowOf rules tokens rights user words words' one one' two two' reply
  pub rows : AtFront 2 (count_words (first_rows reply) (second_rows reply)) counts counts'
  pub word : r ≡ packed (trees_told reply) (told_line reply)

-- `teplonga_change` hands over what `change` answers, and the number of bytes in a word
pub record ChangeWord (rules rights : List ℕ) (user rule : ℕ)
    (lay bytes bytes' count count' : List ℕ) (r : ℕ) : Type 0 where
  pub reply : Result ℕ Refusal
  pub promise : ChangeOf rules rights user rule lay bytes bytes' reply
  pub entries : AtFront 1 (entry_count reply ∷ []) count count'
  pub word : r ≡ packed (list_told reply) (told_line reply)
