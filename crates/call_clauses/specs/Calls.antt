-- The promises of the calls for clause sheets: the same as those for rule sheets, with what the
-- clause sheet gives. docs/FORMAT.md, "The clause sheet".
use Rattle.std.specs.Prelude.{List, ℕ, Result}
use Rattle.grammar.specs.declared.Verdict.{Verdict}
use Rattle.sheets.specs.declared.Refusal.{Refusal}
use Rattle.answering.specs.declared.TreeRows.{TreeRows}
use Rattle.sweep_answers.specs.declared.Swept.{Swept}
use Rattle.answering.specs.Answers.{Sheets, with_rules}
use Rattle.answering.specs.Verdict.{VerdictBy}
use Rattle.answering.specs.Trees.{TreesBy}
use Rattle.sweep_answers.specs.Sweep.{SweepBy}
use Rattle.clause_sheets.specs.ClauseSheets.{clause_sheet}

-- both sheets: the rules of the expansion and the word, or the first refusal, those of the clause
-- sheet before those of the token sheet
abbrev pub clause_sheets_of : List ℕ → List ℕ → Sheets
clause_sheets_of clauses tokens = with_rules (clause_sheet clauses) tokens

-- the verdict
abbrev pub ClauseVerdict : (clauses tokens words words' : List ℕ) (r : Result Verdict Refusal)
    → Type 0
ClauseVerdict clauses tokens = VerdictBy (clause_sheets_of clauses tokens)

-- the trees
abbrev pub ClauseTrees : (clauses tokens words words' one one' two two' : List ℕ)
    (r : Result TreeRows Refusal) → Type 0
ClauseTrees clauses tokens = TreesBy (clause_sheets_of clauses tokens)

-- the sweep
abbrev pub ClauseSweep : (clauses : List ℕ) (k : ℕ) (words words' : List ℕ)
    (r : Result Swept Refusal) → Type 0
ClauseSweep clauses = SweepBy (clause_sheet clauses)
