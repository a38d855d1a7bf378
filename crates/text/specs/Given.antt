-- The output of a call that gives a sheet (for inner functions).
use Rattle.std.specs.Prelude.{List, ◌++◌, ℕ, take, Result}
use Rattle.sheets.specs.declared.Answer.{Answer}
use Rattle.sheets.specs.declared.Refusal.{Refusal}
use Rattle.sheets.specs.Results.{told_answer, told_line, told_value}
use Rattle.text.specs.Output.{answer_text, head}

-- the number of bytes that are given, 0 where the call is refused
abbrev pub given_count : Result ℕ Refusal → ℕ
given_count r = told_value (λ (n : ℕ). n) 0 r

-- the answer and its line, then the bytes that are given
abbrev pub given_text : Result ℕ Refusal → List ℕ → List ℕ
given_text r sheet = head (answer_text (told_answer (λ (n : ℕ). Answer.Given) r)) (told_line r)
    ++ take (given_count r) sheet
