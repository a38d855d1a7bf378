-- The refused line by the refusals of both readers (for inner functions).
use Rattle.std.specs.Prelude.{List, ℕ, zero, suc, ◌≤◌, length, Option, Some, None}
use Rattle.fields.specs.Pieces.{pieces}
use Rattle.sheets.specs.declared.Refusal.{Refusal}
use Rattle.sheets.specs.RefusedLines.{HeldLine, in_rules, in_tokens, no_line}

-- a refusal's line is a line of its sheet, or 0
abbrev pub LineIn : List ℕ → Option Refusal → Type 0
LineIn s None = Unit {0}
LineIn s (Some e) = e.line ≤ length (pieces 10 s)

-- line 0 is no line, and the others count from 1; held says which sheet holds it
abbrev pub held_at : (ℕ → HeldLine) → ℕ → HeldLine
held_at held zero = no_line
held_at held (suc n) = held n

-- the sheet that holds the refused line, by the refusal of the sheet with the tokens
abbrev pub second_held : Option Refusal → HeldLine
second_held None = no_line
second_held (Some e) = held_at in_tokens e.line

-- and by that of the sheet with the rules before it
abbrev pub held_of : Option Refusal → Option Refusal → HeldLine
held_of None p = second_held p
held_of (Some e) p = held_at in_rules e.line
