-- The output of a sweep (for inner functions).
use Rattle.std.specs.Prelude.{List, ◌++◌, ℕ, Result}
use Rattle.grammar.specs.Sentences.{spelled}
use Rattle.sheets.specs.declared.Refusal.{Refusal}
use Rattle.sheets.specs.Results.{told_line}
use Rattle.sweep_answers.specs.declared.Swept.{Swept}
use Rattle.sweep_answers.specs.Sweep.{sweep_told, sweep_sentence}
use Rattle.text.specs.Output.{answer_text, head, sentence_text}

abbrev pub swept_text : Result Swept Refusal → List ℕ
swept_text r = head (answer_text (sweep_told r)) (told_line r)
    ++ sentence_text (sweep_told r) (spelled (sweep_sentence r))
