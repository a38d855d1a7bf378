-- The result on a list that was put (for inner functions).
use Rattle.std.specs.Prelude.{ℕ, Option, Some, None, Result}
use Rattle.sheets.specs.declared.Fault.{Fault}
use Rattle.sheets.specs.declared.Refusal.{Refusal}
use Rattle.sheets.specs.Results.{refusal}
use Rattle.list_answers.specs.Lists.{list_reply}

abbrev pub on_list : Option ℕ → Result ℕ Refusal
on_list (Some n) = list_reply n
on_list None = refusal Fault.FewRows 0
