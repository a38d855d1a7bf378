-- A rule sheet with another mark in one of its rules: docs/FORMAT.md, "Closed nodes".
use Rattle.std.specs.Prelude.{ℕ, ◌+◌, List, [], ◌++◌, length, get_or, take, drop}
use Rattle.std.specs.Prelude.{Option, None, Some}
use Rattle.fields.specs.declared.Lay.{Lay}
use Rattle.fields.specs.Pieces.{pieces}
use Rattle.fields.specs.Words.{lay_of}
use Rattle.sheets.specs.Items.{Reading, refused}
use Rattle.sheets.specs.RefusedLines.{piece_start}
use Rattle.sheets.specs.RuleSheets.{rule_sheet}
use Rattle.grammar.specs.Trees.{Rules}

-- the line of the rule at place p, counted from 1: p lines stand before it, that of the names too
abbrev pub line_of : List ℕ → ℕ → List ℕ
line_of s p = get_or (pieces 10 s) p []

-- where the lay of that rule begins: four fields stand before it in its line; it ends where the
-- line does
abbrev pub lay_start : List ℕ → ℕ → ℕ
lay_start s p = piece_start (pieces 10 s) p + piece_start (pieces 32 (line_of s p)) 4

abbrev pub lay_end : List ℕ → ℕ → ℕ
lay_end s p = piece_start (pieces 10 s) p + length (line_of s p)

-- the sheet with these bytes as that lay: only that field differs
abbrev pub changed : List ℕ → ℕ → List ℕ → List ℕ
changed s p lay = take (lay_start s p) s ++ (lay ++ drop (lay_end s p) s)

-- what the changed sheet says: bytes that are no word of lay are refused 2 in that rule's line;
-- else all checks are made afresh
abbrev pub read_changed : List ℕ → ℕ → List ℕ → Option Lay → Reading Rules
read_changed s p lay (Some y) = rule_sheet (changed s p lay)
read_changed s p lay None = refused 2 (p + 1)

abbrev pub changed_sheet : List ℕ → ℕ → List ℕ → Reading Rules
changed_sheet s p lay = read_changed s p lay (lay_of lay)
