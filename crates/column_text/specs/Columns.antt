-- What the program `calls` writes for `columns`: the answer and its line, then `none one two` and
-- yes or no for each.
use Rattle.std.specs.Prelude.{◌≡◌, Bool, true, false, List, [], ◌∷◌, ◌++◌, ℕ, length, Result}
use Rattle.sheets.specs.declared.Answer.{Answer}
use Rattle.text.specs.Output.{answer_text, head}
use Rattle.column_search.specs.declared.Flags.{Flags}
use Rattle.sheets.specs.declared.Refusal.{Refusal}
use Rattle.sheets.specs.Results.{told_line}
use Rattle.call_columns.specs.Columns.{ColumnsOf, columns_told, flags_of}

-- yes or no
abbrev pub flag_text : Bool → List ℕ
flag_text true = 121 ∷ 101 ∷ 115 ∷ []
flag_text false = 110 ∷ 111 ∷ []

-- the line `none one two`
abbrev pub flag_names : List ℕ
flag_names = 110 ∷ 111 ∷ 110 ∷ 101 ∷ 32 ∷ 111 ∷ 110 ∷ 101 ∷ 32 ∷ 116 ∷ 119 ∷ 111 ∷ 10 ∷ []

-- that line and the three flags
unfoldable pub flag_lines : Flags → List ℕ
flag_lines f = flag_names ++ ((flag_text f.none ++ (32 ∷ []))
    ++ ((flag_text f.one ++ (32 ∷ [])) ++ (flag_text f.two ++ (10 ∷ []))))

-- nothing for a refusal
abbrev pub columns_text : Answer → Flags → List ℕ
columns_text Answer.None f = []
columns_text Answer.One f = []
columns_text Answer.Two f = []
columns_text Answer.Clear f = []
columns_text Answer.Given f = flag_lines f
columns_text (Answer.Refused e) f = []

-- the output for two sheets; it lends words enough for 64 tokens
pub data ColumnsTextOf (rules ranges text : List ℕ) : Type 0 where
  answered : {words words' : List ℕ} {r : Result Flags Refusal} → length words ≡ 4162
      → ColumnsOf rules ranges words words' r
      → text ≡ head (answer_text (columns_told r)) (told_line r)
      ++ columns_text (columns_told r) (flags_of r)
      → ColumnsTextOf rules ranges text
