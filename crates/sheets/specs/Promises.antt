-- What the readers promise, and what the code's answers say.
use Rattle.std.specs.Prelude.{◌≡◌, Option, Some, None, Result, Ok, Err}
use Rattle.grammar.specs.declared.Rule.{Rule}
use Rattle.grammar.specs.declared.Sentence.{Sentence}
use Rattle.grammar.specs.Content.{rules_of, Formed, Positioned}
use Rattle.lengths.specs.declared.Book.{Book}
use Rattle.lengths.specs.Indexes.{Exact}
use Rattle.lengths.specs.Books.{Appended}
use Rattle.sheets.specs.declared.Fault.{Fault}
use Rattle.sheets.specs.declared.Refusal.{Refusal}
use Rattle.sheets.specs.Refusals.{number_of, RefusedAs}
use Rattle.sheets.specs.Items.{Reading, accepted, refused, Step, next, stop, end}
use Rattle.grammar.specs.Sentences.{spelled}
use Rattle.grammar.specs.Trees.{Rules}
use Rattle.grammar.specs.Layout.{Word}

-- a reader's answer as a reading of what `value` sees in it: a refusal by its number
abbrev pub reading_of : {A B : Type 0} → (A → B) → Result A Refusal → Reading B
reading_of value (Ok x) = accepted (value x)
reading_of value (Err e) = refused (number_of e.fault) e.line

-- the answer is the wanted reading, of which Given says what was read
abbrev pub ReadAs : {A B : Type 0} → (A → Reading B → Type 0) → Result A Refusal → Reading B
    → Type 0
ReadAs Given (Ok x) want = Given x want
ReadAs Given (Err e) want = RefusedAs want e.fault e.line

-- the wanted rules are accepted: the grammar is formed, and the index is true of the rules
pub record RulesGiven (b : Book) (want : Reading Rules) : Type 0 where
  pub is : want ≡ accepted (rules_of b.grammar)
  pub formed : Formed b.grammar
  pub exact : Exact (rules_of b.grammar) b.index

-- the wanted tokens are accepted: the sentence is positioned
pub record TokensGiven (s : Sentence) (want : Reading Word) : Type 0 where
  pub is : want ≡ accepted (spelled s)
  pub positioned : Positioned s

abbrev pub RulesRead : Result Book Refusal → Reading Rules → Type 0
RulesRead = ReadAs RulesGiven

abbrev pub TokensRead : Result Sentence Refusal → Reading Word → Type 0
TokensRead = ReadAs TokensGiven

-- what the code says of a whole line, and of any: one more item, a refusal, or the sheet's end
abbrev pub as_item : {A : Type 0} → Result A Fault → Step A
as_item (Ok x) = next x
as_item (Err f) = stop (number_of f)

abbrev pub as_step : {A : Type 0} → Result (Option A) Fault → Step A
as_step (Ok (Some x)) = next x
as_step (Ok None) = end
as_step (Err f) = stop (number_of f)

-- what a line makes of the book: "the index stays true at each rule appended; a refused
-- rule line changes neither rules nor index"
abbrev pub Adds : Book → Result (Option Rule) Fault → Book → Type 0
Adds b (Ok (Some r)) x = Appended b r x
Adds b (Ok None) x = x ≡ b
Adds b (Err f) x = x ≡ b
