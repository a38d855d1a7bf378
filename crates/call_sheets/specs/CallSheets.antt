-- The call sheet of the program `calls`: a line of names, then a line of values, both ended.
use Rattle.std.specs.Prelude.{Bool, false, cond, ◌&&◌, ◌||◌, List, [], ◌∷◌, ℕ, ◌+◌, ◌-◌, eqb, leb}
use Rattle.std.specs.Prelude.{length, get_or, take, drop}
use Rattle.std.specs.Prelude.{Option, None, Some}
use Rattle.fields.specs.Pieces.{pieces, same_bytes}
use Rattle.fields.specs.Words.{numeral_of}
use Rattle.fields.specs.Fields.{with_field, at_end_of}
use Rattle.call_sheets.specs.declared.Call.{Call}
use Rattle.call_sheets.specs.declared.Sheets.TheVariants as Sheets
use Rattle.call_sheets.specs.declared.OneSheet.{OneSheet}
use Rattle.call_sheets.specs.declared.TwoSheets.{TwoSheets}

abbrev pub on_one : OneSheet → Option Call
on_one c = Some (Call.On (Sheets.One c))

abbrev pub on_two : TwoSheets → Option Call
on_two c = Some (Call.On (Sheets.Two c))

-- 1. calls without numbers: the whole sheet

-- `call`, `clauses`
abbrev pub clauses_sheet : List ℕ
clauses_sheet = 99 ∷ 97 ∷ 108 ∷ 108 ∷ 10 ∷ 99 ∷ 108 ∷ 97 ∷ 117 ∷ 115 ∷ 101 ∷ 115 ∷ 10 ∷ []

-- `call`, `expand`
abbrev pub expand_sheet : List ℕ
expand_sheet = 99 ∷ 97 ∷ 108 ∷ 108 ∷ 10 ∷ 101 ∷ 120 ∷ 112 ∷ 97 ∷ 110 ∷ 100 ∷ 10 ∷ []

-- `call`, `rows`
abbrev pub rows_sheet : List ℕ
rows_sheet = 99 ∷ 97 ∷ 108 ∷ 108 ∷ 10 ∷ 114 ∷ 111 ∷ 119 ∷ 115 ∷ 10 ∷ []

-- `call`, `columns`
abbrev pub columns_sheet : List ℕ
columns_sheet = 99 ∷ 97 ∷ 108 ∷ 108 ∷ 10 ∷ 99 ∷ 111 ∷ 108 ∷ 117 ∷ 109 ∷ 110 ∷ 115 ∷ 10 ∷ []

-- `call`, `places`
abbrev pub places_sheet : List ℕ
places_sheet = 99 ∷ 97 ∷ 108 ∷ 108 ∷ 10 ∷ 112 ∷ 108 ∷ 97 ∷ 99 ∷ 101 ∷ 115 ∷ 10 ∷ []

-- `call`, `always`
abbrev pub always_sheet : List ℕ
always_sheet = 99 ∷ 97 ∷ 108 ∷ 108 ∷ 10 ∷ 97 ∷ 108 ∷ 119 ∷ 97 ∷ 121 ∷ 115 ∷ 10 ∷ []

-- `call`, `clauses-always`
abbrev pub clauses_always_sheet : List ℕ
clauses_always_sheet =
    99 ∷ 97 ∷ 108 ∷ 108 ∷ 10
    ∷ 99 ∷ 108 ∷ 97 ∷ 117 ∷ 115 ∷ 101 ∷ 115 ∷ 45 ∷ 97 ∷ 108 ∷ 119 ∷ 97 ∷ 121 ∷ 115 ∷ 10 ∷ []

-- `call`, `merge`
abbrev pub merge_sheet : List ℕ
merge_sheet = 99 ∷ 97 ∷ 108 ∷ 108 ∷ 10 ∷ 109 ∷ 101 ∷ 114 ∷ 103 ∷ 101 ∷ 10 ∷ []

-- 2. calls with numbers: how the sheet begins, up to the blank behind the call's word

-- `call bound`, `clauses `
abbrev pub bound_start : List ℕ
bound_start =
    99 ∷ 97 ∷ 108 ∷ 108 ∷ 32 ∷ 98 ∷ 111 ∷ 117 ∷ 110 ∷ 100 ∷ 10
    ∷ 99 ∷ 108 ∷ 97 ∷ 117 ∷ 115 ∷ 101 ∷ 115 ∷ 32 ∷ []

-- `call length racks share`, `share `
abbrev pub share_start : List ℕ
share_start =
    99 ∷ 97 ∷ 108 ∷ 108 ∷ 32 ∷ 108 ∷ 101 ∷ 110 ∷ 103 ∷ 116 ∷ 104 ∷ 32 ∷ 114 ∷ 97 ∷ 99 ∷ 107 ∷ 115
    ∷ 32 ∷ 115 ∷ 104 ∷ 97 ∷ 114 ∷ 101 ∷ 10
    ∷ 115 ∷ 104 ∷ 97 ∷ 114 ∷ 101 ∷ 32 ∷ []

-- `call user`, `show `
abbrev pub show_start : List ℕ
show_start =
    99 ∷ 97 ∷ 108 ∷ 108 ∷ 32 ∷ 117 ∷ 115 ∷ 101 ∷ 114 ∷ 10
    ∷ 115 ∷ 104 ∷ 111 ∷ 119 ∷ 32 ∷ []

-- `call user rule lay`, `change `
abbrev pub change_start : List ℕ
change_start =
    99 ∷ 97 ∷ 108 ∷ 108 ∷ 32 ∷ 117 ∷ 115 ∷ 101 ∷ 114 ∷ 32 ∷ 114 ∷ 117 ∷ 108 ∷ 101 ∷ 32 ∷ 108 ∷ 97
    ∷ 121 ∷ 10
    ∷ 99 ∷ 104 ∷ 97 ∷ 110 ∷ 103 ∷ 101 ∷ 32 ∷ []

-- the sheet begins so, and ends with a byte 10
abbrev pub begins_with : List ℕ → List ℕ → Bool
begins_with start s = leb (length start + 1) (length s)
    && (same_bytes (take (length start) s) start && eqb (get_or s (length s - 1) 0) 10)

-- the values between that beginning and the last byte 10
abbrev pub values : List ℕ → List ℕ → List ℕ
values start s = take (length s - 1 - length start) (drop (length start) s)

-- the value of a number's field, or no call
abbrev pub with_number : Option ℕ → (ℕ → Option Call) → Option Call
with_number (Some v) k = k v
with_number None k = None

-- a sweep of a clause sheet; trees as shown to a user
abbrev pub sweep_call : ℕ → Option Call
sweep_call k = on_one (OneSheet.ClausesSweep k)

abbrev pub show_call_of : ℕ → Option Call
show_call_of u = on_two (TwoSheets.Show u)

-- three numbers: length, racks, share
abbrev pub share_end : ℕ → ℕ → ℕ → List (List ℕ) → Option Call
share_end n p i fs = at_end_of None fs (on_one (OneSheet.Share n p i))

abbrev pub share_third : ℕ → ℕ → List (List ℕ) → Option Call
share_third n p fs = with_field None numeral_of fs (share_end n p)

abbrev pub share_second : ℕ → List (List ℕ) → Option Call
share_second n fs = with_field None numeral_of fs (share_third n)

abbrev pub share_call_of : List (List ℕ) → Option Call
share_call_of fs = with_field None numeral_of fs share_second

-- has the field a byte 10?
abbrev pub broken : List ℕ → Bool
broken [] = false
broken (x ∷ f) = eqb x 10 || broken f

-- user, rule, and any one field in the line, of no bytes too: where it begins in a sheet of m bytes
abbrev pub change_end : ℕ → ℕ → ℕ → List (List ℕ) → Option Call
change_end m u r [] = None
change_end m u r (f ∷ []) =
    cond (broken f) None (on_two (TwoSheets.Change u r (m - 1 - length f)))
change_end m u r (f ∷ g ∷ fs) = None

abbrev pub change_second : ℕ → ℕ → List (List ℕ) → Option Call
change_second m u fs = with_field None numeral_of fs (change_end m u)

abbrev pub change_call_of : ℕ → List (List ℕ) → Option Call
change_call_of m fs = with_field None numeral_of fs (change_second m)

-- 3. the call that a sheet names

abbrev pub always_call : List ℕ → Option Call
always_call s =
    cond (same_bytes s always_sheet) (Some Call.Always)
    (cond (same_bytes s clauses_always_sheet) (Some Call.ClausesAlways) None)

abbrev pub numbered_call : List ℕ → Option Call
numbered_call s =
    cond (begins_with bound_start s) (with_number (numeral_of (values bound_start s)) sweep_call)
    (cond (begins_with show_start s) (with_number (numeral_of (values show_start s)) show_call_of)
    (cond (begins_with share_start s) (share_call_of (pieces 32 (values share_start s)))
    (cond (begins_with change_start s)
    (change_call_of (length s) (pieces 32 (values change_start s)))
    (always_call s))))

abbrev pub call_of : List ℕ → Option Call
call_of s =
    cond (same_bytes s clauses_sheet) (on_two TwoSheets.Clauses)
    (cond (same_bytes s expand_sheet) (on_one OneSheet.Expand)
    (cond (same_bytes s rows_sheet) (on_two TwoSheets.Rows)
    (cond (same_bytes s columns_sheet) (on_two TwoSheets.Columns)
    (cond (same_bytes s places_sheet) (on_two TwoSheets.Places)
    (cond (same_bytes s merge_sheet) (on_two TwoSheets.Merge)
    (numbered_call s))))))
