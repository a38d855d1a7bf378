-- What a range sheet says: its tokens with their ends, or the refusal with its line.
-- docs/FORMAT.md, "The range sheet": refusals 11, 14, 12, 13, 48, then 49.
use Rattle.std.specs.Prelude.{ℕ, List, [], ◌∷◌, Bool, cond, leb}
use Rattle.fields.specs.Pieces.{pieces}
use Rattle.sheets.specs.Items.{Reading, accepted, refused, Step, next, stop, line_step_of}
use Rattle.sheets.specs.Items.{items_from}
use Rattle.sheets.specs.Items.{with_names}
use Rattle.column_ranges.specs.declared.RangeToken.{RangeToken}
use Rattle.column_ranges.specs.Ranges.{Ranges, choice_count, choice_limit}
use Rattle.std.specs.Prelude.{Result, Ok, Err}
use Rattle.sheets.specs.declared.Fault.{Fault}
use Rattle.sheets.specs.Refusals.{number_of}
use Rattle.range_sheets.specs.RangeLines.{range_line}

-- 12, 13, 48; 15 is not given
abbrev pub range_said_of : Result RangeToken Fault → Step RangeToken
range_said_of (Ok r) = next r
range_said_of (Err f) = stop (number_of f)

abbrev pub range_says : Ranges → List ℕ → Step RangeToken
range_says seen line = range_said_of (range_line line)

-- a line after the tokens seen: 14 (a 65th token), then 12, 13, 48
abbrev pub range_step : Ranges → List ℕ → Bool → Step RangeToken
range_step = line_step_of 64 14 12 range_says

-- at the end, 49: the ends allow more than 65,536 choices, rising or not; line 0
abbrev pub few_choices : Reading (List RangeToken) → Reading (List RangeToken)
few_choices (accepted rs) = cond (leb (choice_count rs) choice_limit) (accepted rs) (refused 49 0)
few_choices (refused f l) = refused f l

-- term line low high
abbrev pub range_names : List ℕ
range_names =
    116 ∷ 101 ∷ 114 ∷ 109 ∷ 32 ∷ 108 ∷ 105 ∷ 110 ∷ 101 ∷ 32 ∷ 108 ∷ 111 ∷ 119 ∷ 32 ∷ 104 ∷ 105 ∷ 103
    ∷ 104 ∷ []

-- 11 (these names only), then line by line, then 49
abbrev pub range_sheet : List ℕ → Reading (List RangeToken)
range_sheet s =
    few_choices (with_names (refused 11 1) range_names (pieces 10 s) (items_from range_step []))
