-- The output of a call for trees, from the memories that have them (for inner functions).
use Rattle.std.specs.Prelude.{List, ◌++◌, ℕ, ◌*◌, take, Result}
use Rattle.answering.specs.declared.TreeRows.{TreeRows}
use Rattle.answering.specs.Results.{trees_told, first_rows, second_rows}
use Rattle.sheets.specs.declared.Refusal.{Refusal}
use Rattle.sheets.specs.Results.{told_line}
use Rattle.text.specs.Output.{answer_text, head, trees_text}

abbrev pub answered_text : Result TreeRows Refusal → List ℕ → List ℕ → List ℕ
answered_text r one two = head (answer_text (trees_told r)) (told_line r)
    ++ trees_text (trees_told r) (take (4 * first_rows r) one) (take (4 * second_rows r) two)
