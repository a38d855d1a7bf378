-- Words and the layout marks on words: docs/FORMAT.md, "Layout marks"; the paper, Fig. 2.
use Rattle.std.specs.Prelude.{◌≡◌, List, [], ◌∷◌, ℕ, ◌+◌, ◌≤◌, ◌<◌}
use Rattle.grammar.specs.declared.Token.{Token}
use Rattle.grammar.specs.declared.UnaryMark.{UnaryMark}
use Rattle.grammar.specs.declared.BinaryMark.{BinaryMark}

-- a word: a sentence or a part of one
abbrev pub Word : Type 0
Word = List Token

abbrev pub line : Token → ℕ
line t = t.line.0

abbrev pub col : Token → ℕ
col t = t.column.0

abbrev pub width : Token → ℕ
width t = t.width.0

-- the first column past a token
abbrev pub past : Token → ℕ
past t = col t + width t

-- P holds of each member
abbrev pub Every : {A : Type 0} → (A → Type 0) → List A → Type 0
Every P [] = Unit {0}
Every P (a ∷ l) = P a × Every P l

-- the last token of the word a ∷ w
abbrev pub last : Token → Word → Token
last a [] = a
last a (b ∷ w) = last b w

-- what a unary mark asks of a word's first token a and a token t behind it:
-- none, nothing; offside, on a later line a greater column; offalign, the same with greater or
-- equal; single, the same line
abbrev pub Keeps : UnaryMark → Token → Token → Type 0
Keeps UnaryMark.None a t = Unit {0}
Keeps UnaryMark.Offside a t = line a < line t → col a < col t
Keeps UnaryMark.Offalign a t = line a < line t → col a ≤ col t
Keeps UnaryMark.Single a t = line t ≡ line a

-- a unary mark holds of a word; it holds of the empty word
abbrev pub Unary : UnaryMark → Word → Type 0
Unary m [] = Unit {0}
Unary m (a ∷ w) = Every (Keeps m a) w

-- what a binary mark asks of the first word's first token a and last token z, and the second word's
-- first token b: none, nothing; align, equal columns; indent, a greater column, on any line after
-- the first word's last (the paper: on the next one)
abbrev pub Pairs : BinaryMark → Token → Token → Token → Type 0
Pairs BinaryMark.None a z b = Unit {0}
Pairs BinaryMark.Align a z b = col a ≡ col b
Pairs BinaryMark.Indent a z b = (col a < col b) × (line z < line b)

-- a binary mark holds of two words; it holds where one of them is empty
abbrev pub Binary : BinaryMark → Word → Word → Type 0
Binary m [] v = Unit {0}
Binary m (a ∷ u) [] = Unit {0}
Binary m (a ∷ u) (b ∷ v) = Pairs m a (last a u) b
