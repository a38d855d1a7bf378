-- What the program `calls` writes for `always` and `clauses-always`: the answer and its line, then,
-- for unknown, `left first second why` and a line an entry.
use Rattle.std.specs.Prelude.{◌≡◌, List, [], ◌∷◌, ◌++◌, ℕ, zero, suc, ◌*◌, length, take, Result, Ok}
use Rattle.std.specs.Prelude.{Err}
use Rattle.grammar.specs.Trees.{Rules}
use Rattle.printing.specs.Printing.{field}
use Rattle.sheets.specs.Items.{Reading}
use Rattle.sheets.specs.Refusals.{number_of}
use Rattle.text.specs.Output.{refused_text_of, head}
use Rattle.call_always.specs.declared.Told.{Told}
use Rattle.call_always.specs.declared.Told.TheVariants as Told
use Rattle.sheets.specs.declared.Refusal.{Refusal}
use Rattle.sheets.specs.Results.{told_line}
use Rattle.call_always.specs.Always.{always_words, AlwaysBy, always_count}

-- the word `unknown`
abbrev pub unknown_text : List ℕ
unknown_text = 117 ∷ 110 ∷ 107 ∷ 110 ∷ 111 ∷ 119 ∷ 110 ∷ []

-- the word of an answer: clear, unknown, refused-N
abbrev pub told_text : Result Told Refusal → List ℕ
told_text (Ok Told.Clear) = 99 ∷ 108 ∷ 101 ∷ 97 ∷ 114 ∷ []
told_text (Ok (Told.Unknown n)) = unknown_text
told_text (Err e) = refused_text_of (number_of e.fault)

-- why, and the byte 10 behind it: `rules`, `cuts`, `empty`
abbrev pub why_text : ℕ → List ℕ
why_text zero = 114 ∷ 117 ∷ 108 ∷ 101 ∷ 115 ∷ 10 ∷ []
why_text (suc zero) = 99 ∷ 117 ∷ 116 ∷ 115 ∷ 10 ∷ []
why_text (suc (suc y)) = 101 ∷ 109 ∷ 112 ∷ 116 ∷ 121 ∷ 10 ∷ []

-- the line of an entry: nonterminal, two rules, why
unfoldable pub doubt_text : ℕ → ℕ → ℕ → ℕ → List ℕ
doubt_text A p q y = field A ++ (field p ++ (field q ++ why_text y))

-- the lines of entries, four bytes each
abbrev pub doubt_lines : List ℕ → List ℕ
doubt_lines [] = []
doubt_lines (A ∷ []) = []
doubt_lines (A ∷ p ∷ []) = []
doubt_lines (A ∷ p ∷ q ∷ []) = []
doubt_lines (A ∷ p ∷ q ∷ y ∷ rest) = doubt_text A p q y ++ doubt_lines rest

-- the line `left first second why`
abbrev pub doubt_names : List ℕ
doubt_names =
    108 ∷ 101 ∷ 102 ∷ 116 ∷ 32 ∷ 102 ∷ 105 ∷ 114 ∷ 115 ∷ 116 ∷ 32 ∷ 115 ∷ 101 ∷ 99 ∷ 111 ∷ 110
    ∷ 100 ∷ 32 ∷ 119 ∷ 104 ∷ 121 ∷ 10 ∷ []

-- only for unknown
abbrev pub doubts_text : Result Told Refusal → List ℕ → List ℕ
doubts_text (Ok Told.Clear) list = []
doubts_text (Ok (Told.Unknown n)) list = doubt_names ++ doubt_lines list
doubts_text (Err e) list = []

-- the output of what the test tells, from the list of the entries
abbrev pub told_lines : Result Told Refusal → List ℕ → List ℕ
told_lines r list =
    head (told_text r) (told_line r) ++ doubts_text r (take (4 * always_count r) list)

-- the entries that the program lends bytes for
abbrev pub doubts_lent : ℕ
doubts_lent = 14400

-- the output, where the sheet with the rules gives this
pub data AlwaysText (given : Reading Rules) (text : List ℕ) : Type 0 where
  answered : {words words' list list' : List ℕ} {r : Result Told Refusal}
      → length words ≡ always_words
      → length list ≡ 4 * doubts_lent → AlwaysBy given words words' list list' r
      → text ≡ told_lines r list' → AlwaysText given text
