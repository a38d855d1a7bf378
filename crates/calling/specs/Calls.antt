-- The program `calls`: its whole output for an input.
use Rattle.std.specs.Prelude.{◌≡◌, List, ℕ, ◌-◌, ◌≤◌, ◌<◌, length, take, drop}
use Rattle.std.proofs.Math.Option.{none, some}
use Rattle.std.specs.Prelude.{Option, Some, None}
use Rattle.always_text.specs.Always.{AlwaysText}
use Rattle.call_sheets.specs.CallSheets.{call_of}
use Rattle.call_sheets.specs.declared.Call.{Call}
use Rattle.call_sheets.specs.declared.Sheets.{Sheets}
use Rattle.call_sheets.specs.declared.OneSheet.{OneSheet}
use Rattle.call_sheets.specs.declared.TwoSheets.{TwoSheets}
use Rattle.call_clauses.specs.Calls.{clause_sheets_of}
use Rattle.clause_sheets.specs.ClauseSheets.{clause_sheet}
use Rattle.clause_text.specs.Texts.{ExpandText}
use Rattle.column_text.specs.Columns.{ColumnsTextOf}
use Rattle.reports.specs.Reports.{MergeText}
use Rattle.share_text.specs.Shares.{ShareTextOf}
use Rattle.sheets.specs.RuleSheets.{rule_sheet}
use Rattle.text.specs.Input.{longest, Parts, parts}
use Rattle.text.specs.Output.{refused_text_of, head}
use Rattle.check_text.specs.Check.{TreesText}
use Rattle.sweep_text.specs.Sweep.{SweepText}
use Rattle.text_trees.specs.Places.{PlacesTextOf}
use Rattle.text_trees.specs.Rows.{RowsTextOf}
use Rattle.rights_text.specs.Texts.{ShowText, ChangeText}

-- a call sheet not so written, or fewer sheets than the call has
abbrev pub Unwritten : List ℕ → Type 0
Unwritten text = text ≡ head (refused_text_of 32) 0

-- a call on two sheets: an empty line ends the first, the second takes all the rest
pub data OnTwoSheets (Of : List ℕ → List ℕ → List ℕ → Type 0) (behind text : List ℕ) : Type 0 where
  fewer : parts behind ≡ none → Unwritten text → OnTwoSheets Of behind text
  two : {p : Parts} → parts behind ≡ some p → Of p.before p.behind text
      → OnTwoSheets Of behind text

-- `clauses`: the answer on a clause sheet and a token sheet, and its trees
abbrev pub ClausesText : List ℕ → List ℕ → List ℕ → Type 0
ClausesText clauses tokens text = TreesText (clause_sheets_of clauses tokens) text

-- `show`: the answer on a rule sheet, a token sheet and a rights sheet, and its trees as the user
-- may see them
abbrev pub ShownText : ℕ → List ℕ → List ℕ → List ℕ → List ℕ → Type 0
ShownText user rules tokens rights text = ShowText rules tokens rights user text

-- `change`: a rule sheet with another mark; it stands in the call sheet from `at` to the last byte
-- 10
abbrev pub ChangedText : List ℕ → ℕ → ℕ → ℕ → List ℕ → List ℕ → List ℕ → Type 0
ChangedText sheet user rule at rules rights text =
    ChangeText rules rights user rule (take (length sheet - 1 - at) (drop at sheet)) text

-- the output of a call on one sheet
abbrev pub OneText : OneSheet → List ℕ → List ℕ → Type 0
OneText (OneSheet.ClausesSweep k) sheet text = SweepText k (clause_sheet sheet) text
OneText OneSheet.Expand sheet text = ExpandText sheet text
OneText (OneSheet.Share n p i) sheet text = ShareTextOf n p i sheet text

-- the output of a call on two sheets, with its call sheet, which has the new mark of a change; the
-- second sheet of `show` is two again
abbrev pub TwoText : List ℕ → TwoSheets → List ℕ → List ℕ → List ℕ → Type 0
TwoText call TwoSheets.Clauses first second text = ClausesText first second text
TwoText call TwoSheets.Rows first second text = RowsTextOf first second text
TwoText call TwoSheets.Merge first second text = MergeText first second text
TwoText call TwoSheets.Columns first second text = ColumnsTextOf first second text
TwoText call TwoSheets.Places first second text = PlacesTextOf first second text
TwoText call (TwoSheets.Show u) first second text = OnTwoSheets (ShownText u first) second text
TwoText call (TwoSheets.Change u r at) first second text = ChangedText call u r at first second text

-- the output of either, from the call sheet and what follows it
abbrev pub SheetsText : List ℕ → Sheets → List ℕ → List ℕ → Type 0
SheetsText sheet (Sheets.One c) behind text = OneText c behind text
SheetsText sheet (Sheets.Two c) behind text = OnTwoSheets (TwoText sheet c) behind text

-- the output of a call
abbrev pub CallText : List ℕ → Option Call → List ℕ → List ℕ → Type 0
CallText sheet (Some Call.Always) behind text = AlwaysText (rule_sheet behind) text
CallText sheet (Some Call.ClausesAlways) behind text = AlwaysText (clause_sheet behind) text
CallText sheet (Some (Call.On c)) behind text = SheetsText sheet c behind text
CallText sheet None behind text = Unwritten text

-- the output: refused-31 for a longer input, refused-32 for one without an empty line, else that of
-- the call
pub data CallsOf (input text : List ℕ) : Type 0 where
  long : longest < length input → text ≡ head (refused_text_of 31) 0 → CallsOf input text
  whole : length input ≤ longest → parts input ≡ none → Unwritten text → CallsOf input text
  called : {p : Parts} → length input ≤ longest → parts input ≡ some p
      → CallText p.before (call_of p.before) p.behind text → CallsOf input text
