-- What the results of the calls for the verdict and for trees tell.
use Rattle.std.specs.Prelude.{ℕ, Result}
use Rattle.grammar.specs.declared.Verdict.{Verdict}
use Rattle.sheets.specs.declared.Answer.{Answer}
use Rattle.sheets.specs.declared.Refusal.{Refusal}
use Rattle.sheets.specs.Results.{verdict_answer, told_answer, told_value}
use Rattle.answering.specs.declared.TreeRows.{TreeRows}

abbrev pub verdict_told : Result Verdict Refusal → Answer
verdict_told r = told_answer verdict_answer r

abbrev pub trees_told : Result TreeRows Refusal → Answer
trees_told r = told_answer (λ (t : TreeRows). verdict_answer t.verdict) r

-- each tree's row count, 0 for a tree not written
abbrev pub first_rows : Result TreeRows Refusal → ℕ
first_rows r = told_value (λ (t : TreeRows). t.first) 0 r

abbrev pub second_rows : Result TreeRows Refusal → ℕ
second_rows r = told_value (λ (t : TreeRows). t.second) 0 r
