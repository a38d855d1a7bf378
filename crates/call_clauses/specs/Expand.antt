-- The promise of the call `expand`: the expanded rule sheet as a list of its bytes. docs/FORMAT.md,
-- "The clause sheet".
use Rattle.std.specs.Prelude.{◌≡◌, List, ◌∷◌, ◌++◌, ℕ, Result, length}
use Rattle.grammar.specs.Trees.{Rules}
use Rattle.rule_text.specs.RuleText.{rules_text}
use Rattle.sheets.specs.Refusals.{RefusedAs}
use Rattle.sheets.specs.declared.Fault.{Fault}
use Rattle.sheets.specs.Items.{accepted}
use Rattle.sheets.specs.RuleSheets.{rule_names}
use Rattle.sheets.specs.declared.Refusal.{Refusal}
use Rattle.sheets.specs.Results.{refusal}
use Rattle.list_answers.specs.Lists.{ListOn}
use Rattle.clause_sheets.specs.ClauseSheets.{clause_sheet}

-- the rule sheet of rules: the names, then a line for each
abbrev pub sheet_text : Rules → List ℕ
sheet_text g = rule_names ++ (10 ∷ rules_text g)

-- what the call answers, and what it leaves of the lent bytes; an entry of the list is a byte
pub data ExpandOf (clauses out out' : List ℕ) (r : Result ℕ Refusal) : Type 0 where
  -- a refused clause sheet: its number and line; no byte changes
  refusing : {f : Fault} {l : ℕ} → RefusedAs (clause_sheet clauses) f l
      → r ≡ refusal f l → out' ≡ out → ExpandOf clauses out out' r
  -- the sheet of the expansion's rules
  giving : {g : Rules} → clause_sheet clauses ≡ accepted g
      → ListOn (sheet_text g) (length (sheet_text g)) out out' r
      → ExpandOf clauses out out' r
