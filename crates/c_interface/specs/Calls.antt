-- What the C functions for verdict, trees and sweep hand over.
use Rattle.std.specs.Prelude.{Result}
use Rattle.sheets.specs.declared.Refusal.{Refusal}
use Rattle.sheets.specs.Results.{told_line}
use Rattle.grammar.specs.declared.Verdict.{Verdict}
use Rattle.answering.specs.Results.{verdict_told, trees_told, first_rows, second_rows}
use Rattle.sweep_answers.specs.Sweep.{sweep_told, sweep_sentence, sweep_tried}
use Rattle.std.specs.Prelude.{◌≡◌, List, ℕ}
use Rattle.sheets.specs.Items.{Reading}
use Rattle.sweep_answers.specs.declared.Swept.{Swept}
use Rattle.answering.specs.declared.TreeRows.{TreeRows}
use Rattle.answering.specs.Answers.{Sheets}
use Rattle.answering.specs.Verdict.{VerdictBy}
use Rattle.answering.specs.Trees.{TreesBy}
use Rattle.sweep_answers.specs.Sweep.{SweepBy}
use Rattle.c_words.specs.Codes.{packed}
use Rattle.c_words.specs.Words.{AtFront, found_words, count_words}
use Rattle.grammar.specs.Trees.{Rules}

-- `teplonga_verdict` hands over what `verdict` answers, where both sheets give this
pub record VerdictWord (given : Sheets) (words words' : List ℕ) (r : ℕ) : Type 0 where
  pub reply : Result Verdict Refusal
  pub promise : VerdictBy given words words' reply
  pub word : r ≡ packed (verdict_told reply) (told_line reply)

-- `teplonga_sweep` hands over what `sweep` answers, the answer's sentence and the number of
-- candidates tried in words, where the sheet with the rules gives this
pub record SweepWord (given : Reading Rules) (k : ℕ) (words words' found found' : List ℕ)
    (r : ℕ) : Type 0 where
  pub reply : Result Swept Refusal
  pub promise : SweepBy given k words words' reply
  pub sentence : AtFront 23 (found_words (sweep_sentence reply) (sweep_tried reply)) found found'
  pub word : r ≡ packed (sweep_told reply) (told_line reply)

-- `teplonga_trees` hands over what `trees` answers, and the trees' row counts in words, where both
-- sheets give this
pub record TreesWord (given : Sheets) (words words' one one' two two' counts counts' : List ℕ)
    (r : ℕ) : Type 0 where
  pub reply : Result TreeRows Refusal
  pub promise : TreesBy given words words' one one' two two' reply
  pub rows : AtFront 2 (count_words (first_rows reply) (second_rows reply)) counts counts'
  pub word : r ≡ packed (trees_told reply) (told_line reply)
