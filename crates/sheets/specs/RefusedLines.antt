-- The refused line of a call with both sheets: docs/FORMAT.md, "Calls and lent memory", the last
-- paragraph.
use Rattle.std.specs.Prelude.{◌≡◌, ℕ, zero, suc, ◌+◌, List, [], ◌∷◌, length, get_or}
use Rattle.std.specs.Borrow.{Bor}
use Rattle.fields.specs.Pieces.{pieces}
use Rattle.fields.specs.Parts.{Part}
use Rattle.sheets.specs.Items.{Reading, accepted, refused}
use Rattle.sheets.specs.RuleSheets.{rule_sheet}
use Rattle.sheets.specs.TokenSheets.{token_sheet}
use Rattle.grammar.specs.Trees.{Rules}

-- the sheet that holds the refused line, and how many lines stand before it there; or there is no
-- such line
pub data HeldLine : Type 0 where
  in_rules : ℕ → HeldLine
  in_tokens : ℕ → HeldLine
  no_line : HeldLine

-- what a sheet gives, that with the tokens: a refusal's line counts from 1; line 0 is no line
abbrev pub of_tokens_of : {A : Type 0} → Reading A → HeldLine
of_tokens_of (accepted w) = no_line
of_tokens_of (refused f zero) = no_line
of_tokens_of (refused f (suc n)) = in_tokens n

abbrev pub of_rules : Reading Rules → HeldLine → HeldLine
of_rules (accepted w) tokens = tokens
of_rules (refused f zero) tokens = no_line
of_rules (refused f (suc n)) tokens = in_rules n

-- the sheet with the rules is read first; they give this
abbrev pub held_by : {A : Type 0} → Reading Rules → Reading A → HeldLine
held_by rules tokens = of_rules rules (of_tokens_of tokens)

-- the refused line of a rule sheet and a token sheet
abbrev pub refused_line : List ℕ → List ℕ → HeldLine
refused_line rules tokens = held_by (rule_sheet rules) (token_sheet tokens)

-- where the piece with n pieces before it begins, each with its byte
abbrev pub piece_start : List (List ℕ) → ℕ → ℕ
piece_start ps zero = 0
piece_start [] (suc n) = 0
piece_start (p ∷ ps) (suc n) = length p + 1 + piece_start ps n

-- r is the part of the sheet that is its line with n lines before it, without its byte 10
pub record LinePart (sheet : Bor (List ℕ)) (n : ℕ) (r : Bor (List ℕ)) : Type 0 where
  pub part : Part sheet (piece_start (pieces 10 sheet.now) n)
      (length (get_or (pieces 10 sheet.now) n [])) r
  pub line : r.now ≡ get_or (pieces 10 sheet.now) n []

-- what is handed back; with no such line, the first zero bytes of the rule sheet
abbrev pub Hands : Bor (List ℕ) → Bor (List ℕ) → Bor (List ℕ) → HeldLine → Type 0
Hands rules tokens r (in_rules n) = LinePart rules n r
Hands rules tokens r (in_tokens n) = LinePart tokens n r
Hands rules tokens r no_line = Part rules 0 0 r
