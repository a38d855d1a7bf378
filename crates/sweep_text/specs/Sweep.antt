-- The whole output of the program `sweep` for an input: docs/FORMAT.md, "The programs".
use Rattle.std.specs.Prelude.{◌≡◌, List, ◌++◌, ℕ, ◌≤◌, ◌<◌, length, Result}
use Rattle.std.proofs.Math.Option.{none, some}
use Rattle.std.specs.Prelude.{None, Some}
use Rattle.grammar.specs.Sentences.{spelled}
use Rattle.grammar.specs.Trees.{Rules}
use Rattle.sheets.specs.Items.{Reading}
use Rattle.sheets.specs.RuleSheets.{rule_sheet}
use Rattle.sheets.specs.declared.Refusal.{Refusal}
use Rattle.sheets.specs.Results.{told_line}
use Rattle.sweep_answers.specs.declared.Swept.{Swept}
use Rattle.sweep_answers.specs.Sweep.{SweepBy, sweep_told, sweep_sentence}
use Rattle.text.specs.Input.{longest, Parts, parts}
use Rattle.text.specs.Output.{refused_text_of, answer_text, head, sentence_text}
use Rattle.sweep_text.specs.Bound.{bound_of}

-- the answer on a bound and a sheet that gives this, and the found sentence; words enough for 7
-- tokens are lent
pub data SweepText (k : ℕ) (given : Reading Rules) (text : List ℕ) : Type 0 where
  swept : {words words' : List ℕ} {r : Result Swept Refusal} → length words ≡ 58
      → SweepBy given k words words' r
      → text ≡ head (answer_text (sweep_told r)) (told_line r) ++ sentence_text (sweep_told r)
      (spelled (sweep_sentence r)) → SweepText k given text

-- the output of `sweep`: refused-31 for a longer input, refused-32 for one without an empty line or
-- with a bound not so written, else the answer on the rule sheet and the found sentence
pub data SweepTextOf (input text : List ℕ) : Type 0 where
  long : longest < length input → text ≡ head (refused_text_of 31) 0 → SweepTextOf input text
  whole : length input ≤ longest → parts input ≡ none → text ≡ head (refused_text_of 32) 0
      → SweepTextOf input text
  unbound : {p : Parts} → length input ≤ longest → parts input ≡ some p → bound_of p.before ≡ None
      → text ≡ head (refused_text_of 32) 0 → SweepTextOf input text
  bounded : {p : Parts} {k : ℕ} → length input ≤ longest → parts input ≡ some p
      → bound_of p.before ≡ Some k
      → SweepText k (rule_sheet p.behind) text → SweepTextOf input text
