-- What a line of a sheet is, before its fields are looked at.
use Rattle.std.specs.Prelude.{ℕ, List, Bool, not, cond, ◌&&◌, leb}
use Rattle.fields.specs.Pieces.{is_empty}
use Rattle.lines.specs.declared.Turn.{Turn}

-- what a line is, before its fields are looked at, after n items of at most `most`; `ended` says
-- whether a byte 10 ends it. No bytes after the last byte 10 are the sheet's end. 6 and 14 come
-- first, whatever the line holds; then a line not ended
abbrev pub turn_of : ℕ → ℕ → List ℕ → Bool → Turn
turn_of most n line ended = cond (not ended && is_empty line) Turn.End
    (cond (leb most n) Turn.Many (cond ended Turn.Whole Turn.Open))
