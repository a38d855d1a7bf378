-- What the program `calls` writes for `show` and `change`, from the sheets on.
use Rattle.std.specs.Prelude.{◌≡◌, List, ◌++◌, ℕ, ◌*◌, length, take, Result}
use Rattle.answering.specs.declared.TreeRows.{TreeRows}
use Rattle.answering.specs.Results.{trees_told, first_rows, second_rows}
use Rattle.list_answers.specs.Lists.{list_told, entry_count}
use Rattle.sheets.specs.declared.Refusal.{Refusal}
use Rattle.sheets.specs.Results.{told_line}
use Rattle.text.specs.Output.{answer_text, head, trees_text}
use Rattle.check_text.specs.Check.{Lent}
use Rattle.call_rights.specs.Show.{ShowOf}
use Rattle.call_rights.specs.Change.{ChangeOf}

-- the answer and its line, then the tree lines of `check`; a closed row has the kind letter C. What
-- `check` lends is lent
pub data ShowText (rules tokens rights : List ℕ) (user : ℕ) (text : List ℕ) : Type 0 where
  shown : {words words' one one' two two' : List ℕ} {r : Result TreeRows Refusal}
      → Lent words one two
      → ShowOf rules tokens rights user words words' one one' two two' r
      → text ≡ head (answer_text (trees_told r)) (told_line r) ++ trees_text (trees_told r)
      (take (4 * first_rows r) one') (take (4 * second_rows r) two')
      → ShowText rules tokens rights user text

-- the answer and its line, then the bytes of the sheet that is given; bytes enough for a sheet of
-- 16,384 bytes with a longer mark are lent
pub data ChangeText (rules rights : List ℕ) (user rule : ℕ) (lay text : List ℕ) : Type 0 where
  changing : {out out' : List ℕ} {r : Result ℕ Refusal} → length out ≡ 16400
      → ChangeOf rules rights user rule lay out out' r
      → text ≡ head (answer_text (list_told r)) (told_line r) ++ take (entry_count r) out'
      → ChangeText rules rights user rule lay text
