-- What a token line says: docs/FORMAT.md, "The token sheet", and refusals 12 and 13; widths and
-- condition 47.
use Rattle.std.specs.Prelude.{ℕ, ◌+◌, List, Bool, true, false, cond, ◌&&◌, leb}
use Rattle.fields.specs.Pieces.{pieces}
use Rattle.fields.specs.Words.{numeral_of}
use Rattle.fields.specs.Fields.{with_field, at_end_of}
use Rattle.std.specs.Prelude.{Result, Ok, Err}
use Rattle.grammar.specs.declared.Token.{Token}
use Rattle.lines.specs.declared.TokenFault.{TokenFault}
use Rattle.lines.specs.declared.TokenFault.TheVariants.{Form, Range, Width}

-- 47: width 0 or above 255, or column plus width above 65,536
abbrev pub sized_of : ℕ → ℕ → ℕ → ℕ → Result Token TokenFault
sized_of t l k w =
    cond ((leb 1 w && leb w 255) && leb (k + w) 65536)
    (Ok (record {
      terminal = t;
      line = record { 0 = l };
      column = record { 0 = k };
      width = record { 0 = w };
    }))
    (Err Width)

-- 13: terminal above 63, line or column 0 or above 65,535; then 47
abbrev pub token_of : ℕ → ℕ → ℕ → ℕ → Result Token TokenFault
token_of t l k w =
    cond (leb t 63 && (leb 1 l && leb l 65535) && (leb 1 k && leb k 65535))
    (sized_of t l k w)
    (Err Range)

-- 12: not four numbers of one to five digits
abbrev pub after_width : ℕ → ℕ → ℕ → ℕ → List (List ℕ) → Result Token TokenFault
after_width t l k w fs = at_end_of (Err Form) fs (token_of t l k w)

-- under the old names not three numbers, and the width is 1
abbrev pub after_column : Bool → ℕ → ℕ → ℕ → List (List ℕ) → Result Token TokenFault
after_column true t l k fs = with_field (Err Form) numeral_of fs (after_width t l k)
after_column false t l k fs = after_width t l k 1 fs

abbrev pub after_line : Bool → ℕ → ℕ → List (List ℕ) → Result Token TokenFault
after_line wide t l fs = with_field (Err Form) numeral_of fs (after_column wide t l)

abbrev pub after_terminal : Bool → ℕ → List (List ℕ) → Result Token TokenFault
after_terminal wide t fs = with_field (Err Form) numeral_of fs (after_line wide t)

abbrev pub token_fields : Bool → List (List ℕ) → Result Token TokenFault
token_fields wide fs = with_field (Err Form) numeral_of fs (after_terminal wide)

-- the line's bytes without its byte 10, parted by blanks; `wide`: the names have `width`
abbrev pub token_line : Bool → List ℕ → Result Token TokenFault
token_line wide line = token_fields wide (pieces 32 line)
