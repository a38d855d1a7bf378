-- A clause sheet's own clauses, from its bytes, before the expansion is judged (for laws).
use Rattle.std.specs.Prelude.{◌≡◌, ℕ, List, []}
use Rattle.fields.specs.Pieces.{pieces}
use Rattle.clauses.specs.Clauses.{Clauses}
use Rattle.clause_lines.specs.ClauseLines.{ClauseLine}
use Rattle.sheets.specs.Items.{Reading, accepted, refused, items_from, with_names}
use Rattle.clause_sheets.specs.ClauseSheets.{clause_step, clauses_of, clause_names}

-- the lines behind the names: 1, 41, 42
abbrev pub sheet_lines : List ℕ → Reading (List ClauseLine)
sheet_lines s = with_names (refused 1 1) clause_names (pieces 10 s) (items_from clause_step [])

-- all lines are read, and these are their clauses
pub record ClausesBy (x : Reading (List ClauseLine)) (c : Clauses) : Type 0 where
  pub lines : List ClauseLine
  pub given : x ≡ accepted lines
  pub are : c ≡ clauses_of lines

-- the clauses of the sheet s
abbrev pub OwnClauses : List ℕ → Clauses → Type 0
OwnClauses s c = ClausesBy (sheet_lines s) c
