-- What the program `calls` writes for `expand`, from the clause sheet on. For `clauses` these are
-- `TreesText` and, with a bound, `SweepText`.
use Rattle.std.specs.Prelude.{◌≡◌, List, ◌++◌, ℕ, length, take, Result}
use Rattle.list_answers.specs.Lists.{list_told, entry_count}
use Rattle.sheets.specs.declared.Refusal.{Refusal}
use Rattle.sheets.specs.Results.{told_line}
use Rattle.text.specs.Output.{answer_text, head}
use Rattle.call_clauses.specs.Expand.{ExpandOf}

-- the answer and its line, then the bytes of the sheet that is given; bytes enough for it are lent
pub data ExpandText (clauses text : List ℕ) : Type 0 where
  expanding : {out out' : List ℕ} {r : Result ℕ Refusal} → length out ≡ 4096
      → ExpandOf clauses out out' r
      → text ≡ head (answer_text (list_told r)) (told_line r) ++ take (entry_count r) out'
      → ExpandText clauses text
