-- The promise of the call `sweep`: docs/FORMAT.md, "The sweep" and "Refusals".
use Rattle.std.specs.Prelude.{◌≡◌, ◌⊎◌, List, ◌++◌, ℕ, ◌-◌, ◌*◌, ◌≤◌, ◌<◌, length, replicate}
use Rattle.std.specs.Prelude.{Option, None, Some, Result, Ok}
use Rattle.grammar.specs.declared.Cell.{Cell}
use Rattle.grammar.specs.declared.Sentence.{Sentence}
use Rattle.counting.specs.Counts.{HowMany}
use Rattle.grammar.specs.Layout.{Word}
use Rattle.grammar.specs.Trees.{Rules}
use Rattle.grammar.specs.SpanSheet.{pairs}
use Rattle.grammar.specs.Candidates.{sentence}
use Rattle.grammar.specs.Sweeps.{Clear, FirstTwo, SweepAnswer, terminal_count, arrangements}
use Rattle.grammar.specs.Sweeps as Sweeps
use Rattle.sheets.specs.declared.Fault.{Fault}
use Rattle.sheets.specs.Refusals.{number_of, RefusedAs}
use Rattle.sheets.specs.Items.{Reading, accepted}
use Rattle.sheets.specs.RuleSheets.{rule_sheet}
use Rattle.sheets.specs.declared.Answer.{Answer}
use Rattle.sheets.specs.declared.Refusal.{Refusal}
use Rattle.sheets.specs.Results.{refusal, told_answer, told_value}
use Rattle.sweep_answers.specs.declared.Swept.{Swept}
use Rattle.grammar.specs.Sentences.{no_token}
use Rattle.sweeping.specs.Cleared.{cleared, TriedBy}

-- the word as a sentence, whose token places past it are 0
abbrev pub padded : Word → Sentence
padded w = record { tokens = w ++ replicate (64 - length w) no_token; count = length w }

-- the word that was found, if one was
abbrev pub found_of : Option Word → Option Sentence
found_of None = None
found_of (Some w) = Some (padded w)

-- the answer holds the found word, and m candidates were tried
abbrev pub sweep_reply_of : Option Word → ℕ → Result Swept Refusal
sweep_reply_of o m = Ok (record { found = found_of o; tried = m })

-- the sentence of no tokens, for where none was found
abbrev pub no_sentence : Sentence
no_sentence = record { tokens = replicate 64 no_token; count = 0 }

-- the most arrangements of the bound's length that a sweep takes on
abbrev pub sweep_limit : ℕ
sweep_limit = 4294967296

-- a sweep that is taken on: 23, 24 and 21 are not given
pub record SweepTaken (g : Rules) (k : ℕ) (words : List ℕ) : Type 0 where
  pub low : 1 ≤ k
  pub high : k ≤ 7
  pub few : arrangements (terminal_count g) k ≤ sweep_limit
  pub enough : 2 * pairs k ≤ length words

-- which candidates a sweep tries, by the rules, the bound and the answer
abbrev pub Tries : Type 1
Tries = Rules → ℕ → SweepAnswer → List Cell → Type 0

-- the answer on the rules that the sheet gives, of a sweep that tries these candidates
pub data SweepTrying (P : Tries) (g : Rules) (k : ℕ) (words words' : List ℕ)
    (r : Result Swept Refusal) : Type
    0 where
  -- k not 1 to 7
  bound : {f : Fault} → (k < 1) ⊎ (7 < k) → number_of f ≡ 23
      → r ≡ refusal f 0 → words' ≡ words
      → SweepTrying P g k words words' r
  -- T^k × 3^(k−1) × k^k above the limit
  many : {f : Fault} → 1 ≤ k → k ≤ 7 → sweep_limit < arrangements (terminal_count g) k
      → number_of f ≡ 24
      → r ≡ refusal f 0 → words' ≡ words
      → SweepTrying P g k words words' r
  -- fewer words than the span sheet of k tokens needs
  short : {f : Fault} → 1 ≤ k → k ≤ 7 → arrangements (terminal_count g) k ≤ sweep_limit
      → length words < 2 * pairs k → number_of f ≡ 21
      → r ≡ refusal f 0 → words' ≡ words
      → SweepTrying P g k words words' r
  -- clear: no rising sequence of 1 to k tokens, whatever its terminals, lines and columns, has two
  -- different valid trees of nonterminal 0; and m candidates were tried
  clear : {m : ℕ} → SweepTaken g k words → Clear g k → HowMany (P g k Sweeps.clear) m
      → r ≡ sweep_reply_of None m → words' ≡ cleared k words
      → SweepTrying P g k words words' r
  -- two: the first candidate that has two; no shorter sequence, candidate or not, has two; and m
  -- candidates were tried
  two : {cs : List Cell} {m : ℕ} → SweepTaken g k words → FirstTwo g k cs → Clear g (length cs - 1)
      → HowMany (P g k (Sweeps.found cs)) m
      → r ≡ sweep_reply_of (Some (sentence cs)) m → words' ≡ cleared k words
      → SweepTrying P g k words words' r

-- what a call answers where the sheet with the rules gives this, and what it leaves of the lent
-- words
pub data SweepReading (P : Tries) (given : Reading Rules) (k : ℕ) (words words' : List ℕ)
    (r : Result Swept Refusal) : Type 0 where
  -- a refused sheet
  refusing : {f : Fault} {l : ℕ} → RefusedAs given f l
      → r ≡ refusal f l
      → words' ≡ words → SweepReading P given k words words' r
  reading : {g : Rules} → given ≡ accepted g → SweepTrying P g k words words' r
      → SweepReading P given k words words' r

-- the sweep tries the candidates of the lengths that nonterminal 0 can have: all of them or, where
-- one is found, those up to and with it (docs/FORMAT.md, "The sweep")
abbrev pub SweepBy : (given : Reading Rules) (k : ℕ) (words words' : List ℕ)
    (r : Result Swept Refusal)
    → Type 0
SweepBy = SweepReading TriedBy

-- the call on a rule sheet
abbrev pub SweepOf : (rules : List ℕ) (k : ℕ) (words words' : List ℕ) (r : Result Swept Refusal)
    → Type 0
SweepOf rules = SweepBy (rule_sheet rules)

-- clear where no sentence was found, two where one was
abbrev pub found_answer : Option Sentence → Answer
found_answer None = Answer.Clear
found_answer (Some s) = Answer.Two

abbrev pub found_or : Option Sentence → Sentence
found_or None = no_sentence
found_or (Some s) = s

-- what the result of a sweep tells: its answer; the found sentence, of no tokens where none was;
-- and
-- the number of candidates tried
abbrev pub sweep_told : Result Swept Refusal → Answer
sweep_told r = told_answer (λ (s : Swept). found_answer s.found) r

abbrev pub sweep_sentence : Result Swept Refusal → Sentence
sweep_sentence r = told_value (λ (s : Swept). found_or s.found) no_sentence r

abbrev pub sweep_tried : Result Swept Refusal → ℕ
sweep_tried r = told_value (λ (s : Swept). s.tried) 0 r
