-- What both sheets give, by what the readers answer.
use mathlib.Core.Path.{◌≡◌, ap, ◌∙◌, subst}
use mathlib.Core.List.{List}
use Prim.Native.Nat.{ℕ}
use Rattle.std.specs.Prelude.{Result}
use Rattle.grammar.specs.Content.{rules_of}
use Rattle.grammar.specs.declared.Sentence.{Sentence}
use Rattle.grammar.specs.declared.Verdict.{Verdict}
use Rattle.lengths.specs.declared.Book.{Book}
use Rattle.sheets.specs.declared.Fault.{Fault}
use Rattle.sheets.specs.declared.Refusal.{Refusal}
use Rattle.sheets.specs.Refusals.{RefusedAs}
use Rattle.sheets.specs.Items.{Reading, accepted}
use Rattle.sheets.specs.TokenSheets.{token_sheet}
use Rattle.sheets.specs.Promises.{RulesGiven, TokensGiven}
use Rattle.answering.specs.Answers.{with_tokens, with_rules}
use Rattle.answering.specs.declared.TreeRows.{TreeRows}
use Rattle.answering.specs.Verdict.{VerdictBy}
use Rattle.answering.specs.Trees.{TreesBy}
use Rattle.grammar.specs.Sentences.{spelled}
use Rattle.grammar.specs.Trees.{Rules}

-- the rules are read, whatever sheet they stand in; t is the token sheet
pub refused_rules : (t : List ℕ) {want : Reading Rules} {f : Fault} {l : ℕ} → RefusedAs want f l
    → RefusedAs (with_rules want t) f l
refused_rules t x = record { is = ap (λ (o : Reading Rules). with_rules o t) x.is }

module _ (t : List ℕ) {want : Reading Rules} {b : Book} (x : RulesGiven b want) where
  pub refused_tokens : {f : Fault} {l : ℕ} → RefusedAs (token_sheet t) f l
      → RefusedAs (with_rules want t) f l
  refused_tokens y = record {
    is = ap (λ (o : Reading Rules). with_rules o t) x.is
        ∙ ap (with_tokens (rules_of b.grammar)) y.is;
  }

  pub both_accepted : {s : Sentence} → TokensGiven s (token_sheet t)
      → with_rules want t ≡ accepted (rules_of b.grammar, spelled s)
  both_accepted y = ap (λ (o : Reading Rules). with_rules o t) x.is
      ∙ ap (with_tokens (rules_of b.grammar)) y.is

-- a promise by what the reader answered is one by the sheet
module _ {o o' : Reading Rules} (e : o ≡ o') where
  pub verdict_by : (t : List ℕ) {words words' : List ℕ} {r : Result Verdict Refusal}
      → VerdictBy (with_rules o t) words words' r → VerdictBy (with_rules o' t) words words' r
  verdict_by t {words} {words'} {r} x =
      subst (λ (y : Reading Rules). VerdictBy (with_rules y t) words words' r) e x

  pub trees_by : (t : List ℕ) {words words' one one' two two' : List ℕ}
      {r : Result TreeRows Refusal}
      → TreesBy (with_rules o t) words words' one one' two two' r
      → TreesBy (with_rules o' t) words words' one one' two two' r
  trees_by t {words} {words'} {one} {one'} {two} {two'} {r} x =
      subst (λ (y : Reading Rules). TreesBy (with_rules y t) words words' one one' two two' r) e x
