-- What the program `calls` writes for `share`: the answer and its line, then `quotient remainder
-- number` and the three, then, for two, the token sheet.
use Rattle.std.specs.Prelude.{◌≡◌, List, [], ◌∷◌, ◌++◌, ℕ, length, Option, Some, None}
use Rattle.printing.specs.Printing.{decimal}
use Rattle.sheets.specs.declared.Answer.{Answer}
use Rattle.text.specs.Output.{answer_text, head, sentence_text}
use Rattle.call_shares.specs.Share.{ShareResult, ShareOf, share_told, share_sentence}
use Rattle.call_shares.specs.Share.{share_number, share_quotient, share_remainder}
use Rattle.sheets.specs.Results.{told_line}
use Rattle.grammar.specs.Sentences.{spelled}

-- the number, or `-` where there is none
abbrev pub number_text : Option ℕ → List ℕ
number_text (Some N) = decimal N
number_text None = 45 ∷ []

-- the line `quotient remainder number`
abbrev pub share_names : List ℕ
share_names =
    113 ∷ 117 ∷ 111 ∷ 116 ∷ 105 ∷ 101 ∷ 110 ∷ 116 ∷ 32 ∷ 114 ∷ 101 ∷ 109 ∷ 97 ∷ 105 ∷ 110 ∷ 100
    ∷ 101 ∷ 114 ∷ 32 ∷ 110 ∷ 117 ∷ 109 ∷ 98 ∷ 101 ∷ 114 ∷ 10 ∷ []

-- that line and the three
unfoldable pub share_lines : ℕ → ℕ → Option ℕ → List ℕ
share_lines q r N = share_names
    ++ ((decimal q ++ (32 ∷ [])) ++ ((decimal r ++ (32 ∷ [])) ++ (number_text N ++ (10 ∷ []))))

-- nothing for a refusal, the number only for two
abbrev pub share_text : Answer → ℕ → ℕ → ℕ → List ℕ
share_text Answer.None q r N = []
share_text Answer.One q r N = []
share_text Answer.Two q r N = share_lines q r (Some N)
share_text Answer.Clear q r N = share_lines q r None
share_text Answer.Given q r N = []
share_text (Answer.Refused f) q r N = []

-- a report: what is printed of a reply
abbrev pub report_text : ShareResult → List ℕ
report_text r = (head (answer_text (share_told r)) (told_line r) ++ share_text (share_told r)
    (share_quotient r) (share_remainder r) (share_number r))
    ++ sentence_text (share_told r) (spelled (share_sentence r))

-- the output for share i of p racks over n tokens; it lends words enough for 7 tokens
pub data ShareTextOf (n p i : ℕ) (rules text : List ℕ) : Type 0 where
  answered : {words words' : List ℕ} {r : ShareResult} → length words ≡ 58
      → ShareOf rules n p i words words' r → text ≡ report_text r → ShareTextOf n p i rules text
