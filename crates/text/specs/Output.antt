-- The programs' output: docs/FORMAT.md, "The programs".
use Rattle.std.specs.Prelude.{List, [], ◌∷◌, ◌++◌, ℕ}
use Rattle.grammar.specs.Layout.{Word}
use Rattle.printing.specs.Printing.{decimal, last_field, row_lines, token_lines}
use Rattle.sheets.specs.Refusals.{number_of}
use Rattle.sheets.specs.TokenSheets.{token_names}
use Rattle.sheets.specs.declared.Answer.{Answer}

-- `refused-` and the number
abbrev pub refused_text_of : ℕ → List ℕ
refused_text_of n = (114 ∷ 101 ∷ 102 ∷ 117 ∷ 115 ∷ 101 ∷ 100 ∷ 45 ∷ []) ++ decimal n

-- the word of an answer: none, one, two, clear, given, refused-N
abbrev pub answer_text : Answer → List ℕ
answer_text Answer.None = 110 ∷ 111 ∷ 110 ∷ 101 ∷ []
answer_text Answer.One = 111 ∷ 110 ∷ 101 ∷ []
answer_text Answer.Two = 116 ∷ 119 ∷ 111 ∷ []
answer_text Answer.Clear = 99 ∷ 108 ∷ 101 ∷ 97 ∷ 114 ∷ []
answer_text Answer.Given = 103 ∷ 105 ∷ 118 ∷ 101 ∷ 110 ∷ []
answer_text (Answer.Refused f) = refused_text_of (number_of f)

-- the line `answer line`
abbrev pub answer_names : List ℕ
answer_names = 97 ∷ 110 ∷ 115 ∷ 119 ∷ 101 ∷ 114 ∷ 32 ∷ 108 ∷ 105 ∷ 110 ∷ 101 ∷ 10 ∷ []

-- the first two lines: the names, then the answer's word and the line
abbrev pub head : List ℕ → ℕ → List ℕ
head word l = answer_names ++ (word ++ (32 ∷ last_field l))

-- the line `tree left kind start length`
abbrev pub tree_names : List ℕ
tree_names =
    116 ∷ 114 ∷ 101 ∷ 101 ∷ 32 ∷ 108 ∷ 101 ∷ 102 ∷ 116 ∷ 32 ∷ 107 ∷ 105 ∷ 110 ∷ 100 ∷ 32 ∷ 115 ∷ 116
    ∷ 97 ∷ 114 ∷ 116 ∷ 32
    ∷ 108 ∷ 101 ∷ 110 ∷ 103 ∷ 116 ∷ 104 ∷ 10 ∷ []

-- tree lines and their names, left out for `none` and refusals; one and two are the trees' rows
abbrev pub trees_text : Answer → List ℕ → List ℕ → List ℕ
trees_text Answer.None one two = []
trees_text Answer.One one two = tree_names ++ row_lines 1 one
trees_text Answer.Two one two = tree_names ++ (row_lines 1 one ++ row_lines 2 two)
trees_text Answer.Clear one two = []
trees_text Answer.Given one two = []
trees_text (Answer.Refused f) one two = []

-- for `two` a token sheet: its names and its lines
abbrev pub sentence_text : Answer → Word → List ℕ
sentence_text Answer.None w = []
sentence_text Answer.One w = []
sentence_text Answer.Two w = (token_names ++ (10 ∷ [])) ++ token_lines w
sentence_text Answer.Clear w = []
sentence_text Answer.Given w = []
sentence_text (Answer.Refused f) w = []
