-- The promise of the call `verdict`: docs/FORMAT.md, "Refusals".
use Rattle.std.specs.Prelude.{◌≡◌, List, ℕ, Result, Ok, ◌*◌, ◌<◌, length, drop}
use Rattle.grammar.specs.Layout.{Word}
use Rattle.grammar.specs.Trees.{Rules}
use Rattle.grammar.specs.SpanSheet.{pairs, SpanSheet}
use Rattle.grammar.specs.Verdicts.{Holds}
use Rattle.grammar.specs.declared.Verdict.{Verdict}
use Rattle.sheets.specs.Items.{accepted}
use Rattle.sheets.specs.declared.Fault.{Fault}
use Rattle.sheets.specs.Refusals.{number_of, RefusedAs}
use Rattle.sheets.specs.declared.Refusal.{Refusal}
use Rattle.sheets.specs.Results.{refusal}
use Rattle.answering.specs.Answers.{Sheets, sheets}

-- the words that w's span sheet needs
abbrev pub needed : Word → ℕ
needed w = 2 * pairs (length w)

-- an accepted call on one sentence leaves its span sheet filled, and words past it never change
pub record SheetFilled (g : Rules) (w : Word) (words words' : List ℕ) : Type 0 where
  pub long : length words' ≡ length words
  pub sheet : SpanSheet g w words'
  pub past : drop (needed w) words' ≡ drop (needed w) words

-- the answer on rules and a word that both sheets give
pub data VerdictOn (g : Rules) (w : Word) (words words' : List ℕ) (r : Result Verdict Refusal)
    : Type 0 where
  -- fewer words than the span sheet needs: no word changes
  short : {f : Fault} → length words < needed w → number_of f ≡ 21
      → r ≡ refusal f 0 → words' ≡ words
      → VerdictOn g w words words' r
  -- none, one or two: what the verdict says of nonterminal 0, the start, and the word; and the
  -- span sheet filled
  judging : {v : Verdict} → Holds v g 0 w → r ≡ Ok v → SheetFilled g w words words'
      → VerdictOn g w words words' r

-- what a call answers where both sheets give this, and what it leaves of the lent words
pub data VerdictBy (given : Sheets) (words words' : List ℕ) (r : Result Verdict Refusal)
    : Type 0 where
  -- a refused sheet: its number and line; no word changes
  refusing : {f : Fault} {l : ℕ} → RefusedAs given f l
      → r ≡ refusal f l → words' ≡ words
      → VerdictBy given words words' r
  reading : {g : Rules} {w : Word} → given ≡ accepted (g, w) → VerdictOn g w words words' r
      → VerdictBy given words words' r

-- the call on a rule sheet and a token sheet
abbrev pub VerdictOf : (rules tokens words words' : List ℕ) (r : Result Verdict Refusal) → Type 0
VerdictOf rules tokens = VerdictBy (sheets rules tokens)
