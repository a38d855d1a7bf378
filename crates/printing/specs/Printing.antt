-- What the programs write: numbers, tree lines, token lines (docs/FORMAT.md, "The programs").
use Rattle.std.specs.Prelude.{◌≡◌, cond, List, [], ◌∷◌, ◌++◌, ℕ, zero, suc, ◌+◌, ◌/◌, ◌%◌, length}
use Rattle.std.specs.Prelude.{take, drop, ltb}
use Rattle.grammar.specs.declared.Token.{Token}
use Rattle.grammar.specs.Layout.{Word, line, col}

-- the digits of n in base ten, by steps of which n + 1 are enough
abbrev pub digits : ℕ → ℕ → List ℕ
digits zero n = []
digits (suc steps) n =
    cond (ltb n 10) ((48 + n) ∷ []) (digits steps (n / 10) ++ ((48 + n % 10) ∷ []))

-- a number in base ten without a leading zero; zero is `0`
unfoldable pub decimal : ℕ → List ℕ
decimal n = digits (suc n) n

-- the bytes were put at a place of a buffer, r is the place after them, and nothing else changed
pub record Wrote (old new : List ℕ) (at : ℕ) (bytes : List ℕ) (r : ℕ) : Type 0 where
  pub next : r ≡ at + length bytes
  pub long : length new ≡ length old
  pub front : take r new ≡ take at old ++ bytes
  pub rest : drop r new ≡ drop r old

-- a number and the blank behind it
abbrev pub field : ℕ → List ℕ
field n = decimal n ++ (32 ∷ [])

-- a number and the byte 10 behind it
abbrev pub last_field : ℕ → List ℕ
last_field n = decimal n ++ (10 ∷ [])

-- the letter of a kind in a row: 0 E, 1 A, 2 U, 3 B, 4 C
abbrev pub letter_of : ℕ → ℕ
letter_of zero = 69
letter_of (suc zero) = 65
letter_of (suc (suc zero)) = 85
letter_of (suc (suc (suc zero))) = 66
letter_of (suc (suc (suc (suc k)))) = 67

-- a tree line: tree, nonterminal, kind letter, start, length
unfoldable pub row_text_of : ℕ → ℕ → ℕ → ℕ → ℕ → List ℕ
row_text_of t A k s n =
    field t ++ (field A ++ ((letter_of k ∷ 32 ∷ []) ++ (field s ++ last_field n)))

-- the tree lines of rows, four bytes each
abbrev pub row_lines : ℕ → List ℕ → List ℕ
row_lines t [] = []
row_lines t (A ∷ []) = []
row_lines t (A ∷ k ∷ []) = []
row_lines t (A ∷ k ∷ s ∷ []) = []
row_lines t (A ∷ k ∷ s ∷ n ∷ rest) = row_text_of t A k s n ++ row_lines t rest

-- a token line: terminal, line, column
unfoldable pub token_text_of : Token → List ℕ
token_text_of t = field t.terminal ++ (field (line t) ++ last_field (col t))

-- the token lines of a word
abbrev pub token_lines : Word → List ℕ
token_lines [] = []
token_lines (t ∷ w) = token_text_of t ++ token_lines w
