-- What a sheet gives, by what its reader answers.
use mathlib.Core.Path.{◌≡◌, sym, subst}
use Rattle.std.specs.Prelude.{Result, Ok, Err}
use Rattle.grammar.specs.Content.{rules_of}
use Rattle.grammar.specs.Sentences.{spelled}
use Rattle.grammar.specs.Trees.{Rules}
use Rattle.grammar.specs.Layout.{Word}
use Rattle.grammar.specs.declared.Sentence.{Sentence}
use Rattle.lengths.specs.declared.Book.{Book}
use Rattle.sheets.specs.declared.Refusal.{Refusal}
use Rattle.sheets.specs.Refusals.{RefusedAs}
use Rattle.sheets.specs.Items.{Reading, accepted}
use Rattle.sheets.specs.Told.{told}
use Rattle.sheets.specs.Promises.{reading_of, ReadAs, RulesGiven, TokensGiven, RulesRead}
use Rattle.sheets.specs.Promises.{TokensRead}

module _ {A B : Type 0} (Given : A → Reading B → Type 0) {r : Result A Refusal}
    {want : Reading B} where
  pub read_of : {x : A} → ReadAs Given r want → r ≡ Ok x → Given x want
  read_of {x} h e = subst (λ (q : Result A Refusal). ReadAs Given q want) e h

  pub read_not : {e : Refusal} → ReadAs Given r want → r ≡ Err e → RefusedAs want e.fault e.line
  read_not {e} h d = subst (λ (q : Result A Refusal). ReadAs Given q want) d h

-- the answer as a reading, where what is given says what the sheet accepts
pub reading_is : {A B : Type 0} (Given : A → Reading B → Type 0) (value : A → B)
    → ((x : A) (want : Reading B) → Given x want → want ≡ accepted (value x))
    → (r : Result A Refusal) {want : Reading B} → ReadAs Given r want → reading_of value r ≡ want
reading_is Given value is (Ok x) {want} h = sym (is x want h)
reading_is Given value is (Err e) h = sym h.is

pub rules_are : {r : Result Book Refusal} {want : Reading Rules} {b : Book} → RulesRead r want
    → r ≡ Ok b → want ≡ accepted (rules_of b.grammar)
rules_are h e = (read_of RulesGiven h e).is

pub rules_not : {r : Result Book Refusal} {want : Reading Rules} {e : Refusal} → RulesRead r want
    → r ≡ Err e → RefusedAs want e.fault e.line
rules_not h e = read_not RulesGiven h e

pub tokens_are : {r : Result Sentence Refusal} {want : Reading Word} {s : Sentence}
    → TokensRead r want → r ≡ Ok s → want ≡ accepted (spelled s)
tokens_are h e = (read_of TokensGiven h e).is

pub tokens_not : {r : Result Sentence Refusal} {want : Reading Word} {e : Refusal}
    → TokensRead r want → r ≡ Err e → RefusedAs want e.fault e.line
tokens_not h e = read_not TokensGiven h e

pub rules_told : (r : Result Book Refusal) {want : Reading Rules} → RulesRead r want → told r ≡ want
rules_told r h = reading_is RulesGiven (λ b. rules_of b.grammar) (λ b w g. g.is) r h

-- for inner functions, which promise by what the reader answered
pub read_told : (r : Result Book Refusal) (want : Reading Rules) → RulesRead r want
    → RulesRead r (told r)
read_told r want h = subst (RulesRead r) (sym (rules_told r h)) h

pub tokens_told : (r : Result Sentence Refusal) {want : Reading Word} → TokensRead r want
    → reading_of spelled r ≡ want
tokens_told r h = reading_is TokensGiven spelled (λ s w g. g.is) r h
