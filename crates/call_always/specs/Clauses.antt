-- The promise of the test at every length on a clause sheet: that on the rules which it gives.
use Rattle.std.specs.Prelude.{List, ℕ, Result}
use Rattle.sheets.specs.declared.Refusal.{Refusal}
use Rattle.call_always.specs.declared.Told.{Told}
use Rattle.call_always.specs.Always.{AlwaysBy}
use Rattle.clause_sheets.specs.ClauseSheets.{clause_sheet}

abbrev pub ClauseAlways : (clauses words words' list list' : List ℕ) (r : Result Told Refusal)
    → Type 0
ClauseAlways clauses = AlwaysBy (clause_sheet clauses)
