-- What the list writer reads. For the contracts of inner functions only.
use Rattle.std.specs.Prelude.{List, ℕ}
use Rattle.grammar.specs.declared.Grammar.{Grammar}
use Rattle.grammar.specs.declared.Sentence.{Sentence}
use Rattle.grammar.specs.Content.{rules_of, Formed, Positioned}
use Rattle.grammar.specs.Sentences.{spelled}
use Rattle.contained_spans.specs.PlaceWords.{PlaceWords}

-- rules and a sentence as the readers give them, and the words that say where places are
pub record Scene (g : Grammar) (s : Sentence) (ps : List ℕ) : Type 0 where
  pub formed : Formed g
  pub positioned : Positioned s
  pub places : PlaceWords (rules_of g) (spelled s) ps
