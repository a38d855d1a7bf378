-- The answer of a call that gives a list: docs/FORMAT.md, "Calls and lent memory".
use Rattle.std.specs.Prelude.{◌≡◌, List, ℕ, Result, Ok}
use Rattle.lists.specs.Lists.{GivesList}
use Rattle.sheets.specs.declared.Answer.{Answer}
use Rattle.sheets.specs.declared.Fault.{Fault}
use Rattle.sheets.specs.declared.Refusal.{Refusal}
use Rattle.sheets.specs.Refusals.{number_of}
use Rattle.sheets.specs.Results.{refusal, told_answer, told_value}

-- the answer is `given`, with the number of entries
abbrev pub list_reply : ℕ → Result ℕ Refusal
list_reply n = Ok n

-- a list of n entries with these bytes is given, or refused 22
pub record ListOn (bytes : List ℕ) (n : ℕ) (lent lent' : List ℕ) (r : Result ℕ Refusal) : Type
    0 where
  pub fault : Fault
  pub number : number_of fault ≡ 22
  pub gives : GivesList list_reply (refusal fault 0) bytes n lent lent' r

-- what the result of such a call tells
abbrev pub list_told : Result ℕ Refusal → Answer
list_told r = told_answer (λ (n : ℕ). Answer.Given) r

-- the number of entries, 0 where the call is refused
abbrev pub entry_count : Result ℕ Refusal → ℕ
entry_count r = told_value (λ (n : ℕ). n) 0 r
