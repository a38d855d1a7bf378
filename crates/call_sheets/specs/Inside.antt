-- For inner functions: the new mark of a change begins within the call sheet.
use Rattle.std.specs.Prelude.{ℕ, ◌<◌, Option, None, Some}
use Rattle.call_sheets.specs.declared.Call.{Call}
use Rattle.call_sheets.specs.declared.Sheets.{Sheets}
use Rattle.call_sheets.specs.declared.TwoSheets.{TwoSheets}

-- in a sheet of m bytes
abbrev pub MarkInside : ℕ → TwoSheets → Type 0
MarkInside m TwoSheets.Clauses = Unit {0}
MarkInside m TwoSheets.Rows = Unit {0}
MarkInside m TwoSheets.Merge = Unit {0}
MarkInside m TwoSheets.Columns = Unit {0}
MarkInside m TwoSheets.Places = Unit {0}
MarkInside m (TwoSheets.Show u) = Unit {0}
MarkInside m (TwoSheets.Change u r at) = at < m

abbrev pub SheetsInside : ℕ → Sheets → Type 0
SheetsInside m (Sheets.One c) = Unit {0}
SheetsInside m (Sheets.Two c) = MarkInside m c

abbrev pub Inside : ℕ → Option Call → Type 0
Inside m (Some Call.Always) = Unit {0}
Inside m (Some Call.ClausesAlways) = Unit {0}
Inside m (Some (Call.On c)) = SheetsInside m c
Inside m None = Unit {0}
