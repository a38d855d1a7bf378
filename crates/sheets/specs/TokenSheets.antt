-- What a token sheet says: its tokens, or the refusal with its line. docs/FORMAT.md, refusals 11 to
-- 15, widths and refusal 47.
use Rattle.std.specs.Prelude.{ℕ, List, [], ◌∷◌, Bool, true, false}
use Rattle.grammar.specs.declared.Token.{Token}
use Rattle.grammar.specs.Layout.{Word, last}
use Rattle.grammar.proofs.Positions.{after?}
use Rattle.fields.specs.Pieces.{pieces}
use Rattle.std.specs.Prelude.{Result, Ok, Err}
use Rattle.lines.specs.declared.TokenFault.{TokenFault}
use Rattle.lines.specs.TokenLines.{token_line}
use Rattle.sheets.specs.Items.{Reading, refused, Step, next, stop, line_step_of, items_from}
use Rattle.sheets.specs.Items.{with_names}

-- 15: not after the token before
abbrev pub in_order : {P : Type 0} → Dec P → Token → Step Token
in_order (yes h) t = next t
in_order (no n) t = stop 15

-- the first token may stand anywhere
abbrev pub order_step : Word → Token → Step Token
order_step [] t = next t
order_step (a ∷ w) t = in_order (after? (last a w) t) t

-- 12, 13, 47, 15
abbrev pub token_said_of : Word → Result Token TokenFault → Step Token
token_said_of seen (Err TokenFault.Form) = stop 12
token_said_of seen (Err TokenFault.Range) = stop 13
token_said_of seen (Err TokenFault.Width) = stop 47
token_said_of seen (Ok t) = order_step seen t

abbrev pub token_says : Bool → Word → List ℕ → Step Token
token_says wide seen line = token_said_of seen (token_line wide line)

-- a token line after the tokens seen: 14 (a 65th token), then 12, 13, 47, 15; `wide`: the names
-- have `width`
abbrev pub token_step : Bool → Word → List ℕ → Bool → Step Token
token_step wide = line_step_of 64 14 12 (token_says wide)

-- term line col
abbrev pub token_names : List ℕ
token_names = 116 ∷ 101 ∷ 114 ∷ 109 ∷ 32 ∷ 108 ∷ 105 ∷ 110 ∷ 101 ∷ 32 ∷ 99 ∷ 111 ∷ 108 ∷ []

-- term line col width
abbrev pub wide_names : List ℕ
wide_names = 116 ∷ 101 ∷ 114 ∷ 109 ∷ 32 ∷ 108 ∷ 105 ∷ 110 ∷ 101 ∷ 32 ∷ 99 ∷ 111 ∷ 108 ∷ 32 ∷ 119
    ∷ 105 ∷ 100 ∷ 116 ∷ 104 ∷ []

-- 11, then line by line, with widths
abbrev pub wide_sheet : List ℕ → Reading Word
wide_sheet s = with_names (refused 11 1) wide_names (pieces 10 s) (items_from (token_step true) [])

-- the old names, then line by line, with width 1; or the names with `width`
abbrev pub token_sheet : List ℕ → Reading Word
token_sheet s =
    with_names (wide_sheet s) token_names (pieces 10 s) (items_from (token_step false) [])
