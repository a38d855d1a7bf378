-- What the reader of a lexeme answers.
use Rattle.std.specs.Prelude.{◌≡◌, ℕ, ◌+◌, ◌≤◌, ◌<◌, List, [], cond, length, drop, get_or}
use Rattle.std.specs.Prelude.{Option, None, Some}
use Rattle.clauses.specs.Clauses as C
use Rattle.clauses.specs.Text.{maybe, repeats, marks, Lex, n, t, opening, closing, bar, suffix}
use Rattle.clauses.specs.Text.{join}
use Rattle.lexemes.specs.declared.Lexeme.{Lexeme}
use Rattle.lexemes.specs.declared.Lexed.{Lexed}
use Rattle.lexemes.specs.Lexemes.{LexFound, starts, ranged, numbered, Sign, sign, signs}
use Rattle.lexemes.specs.Lexemes.{lexemes, onto_lexemes}

-- a lexeme as an enum of the code
abbrev pub lexeme_of : Lex → Lexeme
lexeme_of (n a) = Lexeme.Nonterminal a
lexeme_of (t a) = Lexeme.Terminal a
lexeme_of opening = Lexeme.Open
lexeme_of closing = Lexeme.Close
lexeme_of bar = Lexeme.Bar
lexeme_of (suffix maybe) = Lexeme.Maybe
lexeme_of (suffix (repeats C.from_one m)) = Lexeme.Plus m
lexeme_of (suffix (repeats C.from_zero m)) = Lexeme.Star m
lexeme_of (suffix (marks m)) = Lexeme.Marked m
lexeme_of (join m) = Lexeme.Join m

-- what stands at a place, and the place behind it
abbrev pub as_lexed : ℕ → LexFound → Lexed
as_lexed at (Some y) = record { lexeme = lexeme_of y.0; end = at + y.1 }
as_lexed at None = record { lexeme = Lexeme.Not; end = at }

-- a lexeme that stands at a place, and the place behind it, if one does
abbrev pub lexed_at : ℕ → LexFound → Option Lexed
lexed_at at (Some y) = Some (record { lexeme = lexeme_of y.0; end = at + y.1 })
lexed_at at None = None

-- the sign with the number i
abbrev pub sign_at_of : ℕ → Sign
sign_at_of i = get_or signs i (sign [] opening)

-- the bytes of the sign p, 0 if it does not stand at the front of s
abbrev pub standing : List ℕ → List ℕ → ℕ
standing p s = cond (starts p s) (length p) 0

-- a number 0 to 63
abbrev pub Numbers : Option ℕ → Option ℕ → Type 0
Numbers o (Some v) = (v ≤ 63) × (o ≡ Some v)
Numbers o None = (f : ℕ → Lex) (k : ℕ) → ranged f k o ≡ None

-- the number behind the letter at a place, and where it ends
abbrev pub NumberAt : List ℕ → ℕ → Option (ℕ × ℕ) → Type 0
NumberAt s at (Some x) = (f : ℕ → Lex)
    → lexed_at at (numbered f (drop 1 (drop at s)))
    ≡ Some (record { lexeme = lexeme_of (f x.0); end = x.1 })
NumberAt s at None = (f : ℕ → Lex) → lexed_at at (numbered f (drop 1 (drop at s))) ≡ None

-- the lexeme x stands at a place and ends at e
pub record Front (s : List ℕ) (at : ℕ) (x : Lex) (e : ℕ) : Type 0 where
  pub further : at < e
  pub within : e ≤ length s
  pub front : lexemes (drop at s) ≡ onto_lexemes x (lexemes (drop e s))

-- no byte is left; or no lexeme stands there
pub record NoBytesLeft (s : List ℕ) (at : ℕ) : Type 0 where
  pub front : lexemes (drop at s) ≡ Some []

pub record Bad (s : List ℕ) (at : ℕ) : Type 0 where
  pub front : lexemes (drop at s) ≡ None

-- what a lexeme and its end tell of the bytes from a place on
abbrev pub LexemeTells : List ℕ → ℕ → Lexeme → ℕ → Type 0
LexemeTells s at (Lexeme.Nonterminal a) e = Front s at (n a) e
LexemeTells s at (Lexeme.Terminal a) e = Front s at (t a) e
LexemeTells s at Lexeme.Open e = Front s at opening e
LexemeTells s at Lexeme.Close e = Front s at closing e
LexemeTells s at Lexeme.Bar e = Front s at bar e
LexemeTells s at Lexeme.Maybe e = Front s at (suffix maybe) e
LexemeTells s at (Lexeme.Plus m) e = Front s at (suffix (repeats C.from_one m)) e
LexemeTells s at (Lexeme.Star m) e = Front s at (suffix (repeats C.from_zero m)) e
LexemeTells s at (Lexeme.Marked m) e = Front s at (suffix (marks m)) e
LexemeTells s at (Lexeme.Join m) e = Front s at (join m) e
LexemeTells s at Lexeme.End e = NoBytesLeft s at
LexemeTells s at Lexeme.Not e = Bad s at

-- what stands at a place
pub record Lexes (s : List ℕ) (at : ℕ) (r : Lexed) : Type 0 where
  pub from : at ≤ r.end
  pub within : r.end ≤ length s
  pub tells : LexemeTells s at r.lexeme r.end
