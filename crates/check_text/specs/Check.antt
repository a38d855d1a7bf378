-- The whole output of the program `check` for an input: docs/FORMAT.md, "The programs".
use Rattle.std.specs.Prelude.{◌≡◌, List, ◌++◌, ℕ, ◌*◌, ◌≤◌, ◌<◌, length, take, Result}
use Rattle.std.proofs.Math.Option.{none, some}
use Rattle.answering.specs.Answers.{Sheets, sheets}
use Rattle.answering.specs.declared.TreeRows.{TreeRows}
use Rattle.answering.specs.Results.{trees_told, first_rows, second_rows}
use Rattle.sheets.specs.declared.Refusal.{Refusal}
use Rattle.sheets.specs.Results.{told_line}
use Rattle.answering.specs.Trees.{TreesBy}
use Rattle.text.specs.Input.{longest, Parts, parts}
use Rattle.text.specs.Output.{refused_text_of, answer_text, head, trees_text}

-- what `check` lends: words enough for 64 tokens, and 4,096 rows a tree
pub record Lent (words one two : List ℕ) : Type 0 where
  pub enough : length words ≡ 4162
  pub first : length one ≡ 4 * 4096
  pub second : length two ≡ 4 * 4096

-- the answer on two sheets that give this, and its trees
pub data TreesText (given : Sheets) (text : List ℕ) : Type 0 where
  answered : {words words' one one' two two' : List ℕ} {r : Result TreeRows Refusal}
      → Lent words one two
      → TreesBy given words words' one one' two two' r
      → text ≡ head (answer_text (trees_told r)) (told_line r) ++ trees_text (trees_told r)
      (take (4 * first_rows r) one') (take (4 * second_rows r) two') → TreesText given text

-- the output of `check`: refused-31 for a longer input, refused-32 for one without an empty line,
-- else the answer on the two sheets and its trees
pub data CheckOf (input text : List ℕ) : Type 0 where
  long : longest < length input → text ≡ head (refused_text_of 31) 0 → CheckOf input text
  whole : length input ≤ longest → parts input ≡ none → text ≡ head (refused_text_of 32) 0
      → CheckOf input text
  checked : {p : Parts} → length input ≤ longest → parts input ≡ some p
      → TreesText (sheets p.before p.behind) text → CheckOf input text
