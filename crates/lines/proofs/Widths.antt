-- A token that a line gives has a width of 1 or more.
use mathlib.Core.Path.{◌≡◌, refl}
use mathlib.Core.Bool.{Bool, true, false, ◌&&◌}
use mathlib.Core.List.{List}
use Prim.Native.Nat.{ℕ, ◌+◌, ◌≤◌}
use borrow.Author.Tests.{leb-true}
use lib.Dec.{leb}
use Rattle.grammar.specs.declared.Token.{Token}
use Rattle.grammar.specs.Layout.{width}
use Rattle.fields.specs.Words.{numeral_of}
use Rattle.fields.specs.Pieces.{pieces}
use Rattle.fields.proofs.Pick.{either}
use Rattle.fields.proofs.Fields.{with_holds, end_holds}
use Rattle.std.specs.Prelude.{Result, Ok, Err}
use Rattle.lines.specs.declared.TokenFault.{TokenFault}
use Rattle.lines.specs.declared.TokenFault.TheVariants.{Form}
use Rattle.lines.specs.TokenLines.{sized_of, token_of, after_width, after_column, after_line}
use Rattle.lines.specs.TokenLines.{after_terminal, token_fields, token_line}

abbrev Fine : Result Token TokenFault → Type 0
Fine (Ok t) = 1 ≤ width t
Fine (Err f) = Unit {0}

first : (a b : Bool) → a && b ≡ true → a ≡ true
first true b e = refl
first false b e = e

sized_fine : (t l k w : ℕ) → Fine (sized_of t l k w)
sized_fine t l k w =
    either Fine ((leb 1 w && leb w 255) && leb (k + w) 65536)
    (λ e. leb-true 1 w (first (leb 1 w) (leb w 255)
    (first (leb 1 w && leb w 255) (leb (k + w) 65536) e))) (λ e. tt)

width_fine : (t l k w : ℕ) (fs : List (List ℕ)) → Fine (after_width t l k w fs)
width_fine t l k w =
    end_holds Fine (Err Form) tt (token_of t l k w)
    (either Fine (leb t 63 && (leb 1 l && leb l 65535) && (leb 1 k && leb k 65535))
    (λ e. sized_fine t l k w) (λ e. tt))

column_fine : (wide : Bool) (t l k : ℕ) (fs : List (List ℕ)) → Fine (after_column wide t l k fs)
column_fine true t l k fs =
    with_holds Fine (Err Form) tt numeral_of (after_width t l k) (width_fine t l k) fs
column_fine false t l k fs = width_fine t l k 1 fs

fields_fine : (wide : Bool) (fs : List (List ℕ)) → Fine (token_fields wide fs)
fields_fine wide =
    with_holds Fine (Err Form) tt numeral_of (after_terminal wide)
    (λ t. with_holds Fine (Err Form) tt numeral_of (after_line wide t)
    (λ l. with_holds Fine (Err Form) tt numeral_of (after_column wide t l) (column_fine wide t l)))

pub line_wide : (wide : Bool) (line : List ℕ) (t : Token) → token_line wide line ≡ Ok t
    → 1 ≤ width t
line_wide wide line t e = rw e at (fields_fine wide (pieces 32 line))
