-- The bytes of an expression as lexemes. docs/FORMAT.md, "The clause sheet": items, what may stand
-- after them, and what stands between them.
use Rattle.std.specs.Prelude.{ℕ, zero, suc, ◌+◌, ◌-◌, List, [], ◌∷◌, Bool, true, false, cond, ◌&&◌}
use Rattle.std.specs.Prelude.{length, drop, leb, eqb}
use Rattle.std.specs.Prelude.{Option, None, Some}
use Rattle.grammar.specs.declared.UnaryMark.TheVariants as UnaryMark
use Rattle.grammar.specs.declared.BinaryMark.TheVariants as BinaryMark
use Rattle.fields.specs.Words.{is_digit, numeral_of}
use Rattle.clauses.specs.Clauses as C
use Rattle.clauses.specs.Text.{maybe, repeats, marks, Lex, n, t, opening, closing, bar, suffix}
use Rattle.clauses.specs.Text.{join}

-- a lexeme with the number of its bytes, if there is one
abbrev pub LexFound : Type 0
LexFound = Option (Lex × ℕ)

-- the bytes p stand at the front of s
abbrev pub starts : List ℕ → List ℕ → Bool
starts [] s = true
starts (x ∷ p) [] = false
starts (x ∷ p) (y ∷ s) = eqb x y && starts p s

-- the digits at the front of s
abbrev pub front_digits : List ℕ → List ℕ
front_digits [] = []
front_digits (b ∷ s) = cond (is_digit b) (b ∷ front_digits s) []

-- a number 0 to 63
abbrev pub ranged : (ℕ → Lex) → ℕ → Option ℕ → LexFound
ranged f k (Some v) = cond (leb v 63) (Some (f v, k)) None
ranged f k None = None

-- a number as in rule sheets, behind a letter
abbrev pub numbered : (ℕ → Lex) → List ℕ → LexFound
numbered f s = ranged f (1 + length (front_digits s)) (numeral_of (front_digits s))

-- n4 t2
abbrev pub items : List ℕ → LexFound
items s = cond (starts (110 ∷ []) s) (numbered n (drop 1 s))
    (cond (starts (116 ∷ []) s) (numbered t (drop 1 s)) None)

-- a sign: its bytes, and the lexeme that it is
pub record Sign : Type 0 where
  pub bytes : List ℕ
  pub lex : Lex

abbrev pub sign : List ℕ → Lex → Sign
sign p x = record { bytes = p; lex = x }

-- the signs; of two that begin alike the longer comes first
unfoldable pub signs : List Sign
signs =
    -- ( ) and, between blanks, |
    sign (40 ∷ []) opening
    ∷ sign (41 ∷ []) closing
    ∷ sign (32 ∷ 124 ∷ 32 ∷ []) bar
    -- between blanks :align: and :indent:, and a blank
    ∷ sign (32 ∷ 58 ∷ 97 ∷ 108 ∷ 105 ∷ 103 ∷ 110 ∷ 58 ∷ 32 ∷ []) (join BinaryMark.Align)
    ∷ sign (32 ∷ 58 ∷ 105 ∷ 110 ∷ 100 ∷ 101 ∷ 110 ∷ 116 ∷ 58 ∷ 32 ∷ []) (join BinaryMark.Indent)
    ∷ sign (32 ∷ []) (join BinaryMark.None)
    -- ? +:align + *:align *
    ∷ sign (63 ∷ []) (suffix maybe)
    ∷ sign (43 ∷ 58 ∷ 97 ∷ 108 ∷ 105 ∷ 103 ∷ 110 ∷ [])
    (suffix (repeats C.from_one BinaryMark.Align))
    ∷ sign (43 ∷ []) (suffix (repeats C.from_one BinaryMark.None))
    ∷ sign (42 ∷ 58 ∷ 97 ∷ 108 ∷ 105 ∷ 103 ∷ 110 ∷ [])
    (suffix (repeats C.from_zero BinaryMark.Align))
    ∷ sign (42 ∷ []) (suffix (repeats C.from_zero BinaryMark.None))
    -- :offside :offalign :single
    ∷ sign (58 ∷ 111 ∷ 102 ∷ 102 ∷ 115 ∷ 105 ∷ 100 ∷ 101 ∷ []) (suffix (marks UnaryMark.Offside))
    ∷ sign (58 ∷ 111 ∷ 102 ∷ 102 ∷ 97 ∷ 108 ∷ 105 ∷ 103 ∷ 110 ∷ [])
    (suffix (marks UnaryMark.Offalign))
    ∷ sign (58 ∷ 115 ∷ 105 ∷ 110 ∷ 103 ∷ 108 ∷ 101 ∷ []) (suffix (marks UnaryMark.Single))
    ∷ []

-- the first of the signs that stands at the front of s, or an item
abbrev pub first_sign : List Sign → List ℕ → LexFound
first_sign [] s = items s
first_sign (x ∷ l) s = cond (starts x.bytes s) (Some (x.lex, length x.bytes)) (first_sign l s)

abbrev pub lexeme : List ℕ → LexFound
lexeme s = first_sign signs s

-- one lexeme more in front, where the rest are lexemes
abbrev pub onto_lexemes : Lex → Option (List Lex) → Option (List Lex)
onto_lexemes x (Some l) = Some (x ∷ l)
onto_lexemes x None = None

-- what is found, and what k says of the lexemes behind it, given how many more bytes it has
abbrev pub then : LexFound → (ℕ → Option (List Lex)) → Option (List Lex)
then (Some y) k = onto_lexemes y.0 (k (y.1 - 1))
then None k = None

-- the lexemes of s after its first k bytes, which belong to the lexeme before
abbrev pub from : List ℕ → ℕ → Option (List Lex)
from [] k = Some []
from (b ∷ s) zero = then (lexeme (b ∷ s)) (λ k. from s k)
from (b ∷ s) (suc k) = from s k

-- all of the bytes, as lexemes
abbrev pub lexemes : List ℕ → Option (List Lex)
lexemes s = from s 0
