-- What a line of a range sheet says: docs/FORMAT.md, "The range sheet", and refusals 12, 13 and 48.
use Rattle.std.specs.Prelude.{ℕ, List, cond, ◌&&◌, leb, Result, Ok, Err}
use Rattle.fields.specs.Pieces.{pieces}
use Rattle.fields.specs.Words.{numeral_of}
use Rattle.fields.specs.Fields.{with_field, at_end_of}
use Rattle.sheets.specs.declared.Fault.{Fault}
use Rattle.column_ranges.specs.declared.RangeToken.{RangeToken}

-- 48: high below low
abbrev pub ends_of : ℕ → ℕ → ℕ → ℕ → Result RangeToken Fault
ends_of t l a b =
    cond (leb a b) (Ok (record
    { terminal = t; line = record { 0 = l }; low = record { 0 = a }; high = record { 0 = b } }))
    (Err Fault.RangeEnds)

-- 13: terminal above 63; line, low or high 0 or above 65,535
abbrev pub range_of : ℕ → ℕ → ℕ → ℕ → Result RangeToken Fault
range_of t l a b = cond (leb t 63 && (leb 1 l && leb l 65535) && (leb 1 a && leb a 65535)
    && (leb 1 b && leb b 65535)) (ends_of t l a b)
    (Err Fault.TokenRange)

-- 12: not four numbers of one to five digits
abbrev pub after_range_high : ℕ → ℕ → ℕ → ℕ → List (List ℕ) → Result RangeToken Fault
after_range_high t l a b fs = at_end_of (Err Fault.TokenForm) fs (range_of t l a b)

abbrev pub after_range_low : ℕ → ℕ → ℕ → List (List ℕ) → Result RangeToken Fault
after_range_low t l a fs = with_field (Err Fault.TokenForm) numeral_of fs (after_range_high t l a)

abbrev pub after_range_line : ℕ → ℕ → List (List ℕ) → Result RangeToken Fault
after_range_line t l fs = with_field (Err Fault.TokenForm) numeral_of fs (after_range_low t l)

abbrev pub after_range_terminal : ℕ → List (List ℕ) → Result RangeToken Fault
after_range_terminal t fs = with_field (Err Fault.TokenForm) numeral_of fs (after_range_line t)

abbrev pub range_fields : List (List ℕ) → Result RangeToken Fault
range_fields fs = with_field (Err Fault.TokenForm) numeral_of fs after_range_terminal

-- the line's bytes without its byte 10, parted by blanks
abbrev pub range_line : List ℕ → Result RangeToken Fault
range_line line = range_fields (pieces 32 line)
