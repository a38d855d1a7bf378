-- The promise of the call `rows`: docs/FORMAT.md, "Calls and lent memory".
use Rattle.std.specs.Prelude.{◌≡◌, List, ℕ, Option, Some, Result, Ok, ◌<◌, length}
use Rattle.grammar.specs.Layout.{Word}
use Rattle.grammar.specs.Trees.{Rules}
use Rattle.sheets.specs.Items.{accepted}
use Rattle.sheets.specs.declared.Fault.{Fault}
use Rattle.sheets.specs.Refusals.{number_of, RefusedAs}
use Rattle.sheets.specs.declared.Answer.{Answer}
use Rattle.sheets.specs.declared.Refusal.{Refusal}
use Rattle.sheets.specs.Results.{verdict_answer, refusal, told_answer, told_value}
use Rattle.grammar.specs.declared.Verdict.{Verdict}
use Rattle.grammar.specs.Verdicts.{Holds}
use Rattle.answering.specs.Answers.{sheets}
use Rattle.answering.specs.Verdict.{needed, SheetFilled}
use Rattle.row_counts.specs.RowCounts.{Counted, Tells}
use Rattle.call_rows.specs.declared.CountedRows.{CountedRows}

abbrev pub rows_reply_of : Verdict → Option ℕ → Option ℕ → Result CountedRows Refusal
rows_reply_of v c d = Ok (record { verdict = v; first = c; second = d })

-- the answer on rules and a word that both sheets give
pub data RowsOn (g : Rules) (w : Word) (words words' : List ℕ) (r : Result CountedRows Refusal)
    : Type 0 where
  -- fewer words than the span sheet needs: no word changes
  short : {f : Fault} → length words < needed w → number_of f ≡ 21 → r ≡ refusal f 0
      → words' ≡ words → RowsOn g w words words' r
  -- the verdict, how many rows each tree has, 0 for one that the verdict lacks, and the span sheet
  -- filled
  counting : {v : Verdict} {m n : ℕ} {c d : Option ℕ} → Holds v g 0 w → Counted g w m n
      → Tells c m → Tells d n → r ≡ rows_reply_of v c d
      → SheetFilled g w words words' → RowsOn g w words words' r

-- what the call answers, and what it leaves of the lent words
pub data RowsOf (rules tokens words words' : List ℕ) (r : Result CountedRows Refusal) : Type 0 where
  -- a refused sheet: its number and line; no word changes
  refusing : {f : Fault} {l : ℕ} → RefusedAs (sheets rules tokens) f l → r ≡ refusal f l
      → words' ≡ words → RowsOf rules tokens words words' r
  reading : {g : Rules} {w : Word} → sheets rules tokens ≡ accepted (g, w)
      → RowsOn g w words words' r → RowsOf rules tokens words words' r

-- what the result tells: the verdict, and the row count of each tree; a refused call counts no row
abbrev pub rows_told : Result CountedRows Refusal → Answer
rows_told r = told_answer (λ (t : CountedRows). verdict_answer t.verdict) r

abbrev pub first_count : Result CountedRows Refusal → Option ℕ
first_count r = told_value (λ (t : CountedRows). t.first) (Some 0) r

abbrev pub second_count : Result CountedRows Refusal → Option ℕ
second_count r = told_value (λ (t : CountedRows). t.second) (Some 0) r
