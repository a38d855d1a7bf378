-- The promise of the call `share`: docs/FORMAT.md, "Calls and lent memory" and "Refusals".
use Rattle.std.specs.Prelude.{◌≡◌, ◌⊎◌, List, ℕ, ◌*◌, ◌/◌, ◌%◌, ◌≤◌, ◌<◌, length}
use Rattle.std.specs.Prelude.{Option, None, Some, Result, Ok}
use Rattle.std.proofs.Math.Option.{none, some}
use Rattle.grammar.specs.declared.Cell.{Cell}
use Rattle.grammar.specs.Layout.{Word}
use Rattle.grammar.specs.Trees.{Rules}
use Rattle.grammar.specs.SpanSheet.{pairs}
use Rattle.grammar.specs.Candidates.{sentence}
use Rattle.arrangement_numbers.specs.Numbers.{number}
use Rattle.arrangement_numbers.specs.Shares.{total, Reports}
use Rattle.sheets.specs.declared.Fault.{Fault}
use Rattle.sheets.specs.Refusals.{number_of, RefusedAs}
use Rattle.sheets.specs.Items.{accepted}
use Rattle.sheets.specs.RuleSheets.{rule_sheet}
use Rattle.sheets.specs.declared.Answer.{Answer}
use Rattle.sheets.specs.declared.Refusal.{Refusal}
use Rattle.sheets.specs.Results.{refusal, told_answer, told_value}
use Rattle.grammar.specs.declared.Sentence.{Sentence}
use Rattle.sweep_answers.specs.Sweep.{sweep_limit, no_sentence, found_of, found_answer, found_or}
use Rattle.call_shares.specs.declared.Report.{Report}
use Rattle.sweeping.specs.Cleared.{cleared}

-- what a share answers: a report, or a refusal
abbrev pub ShareResult : Type 0
ShareResult = Result Report Refusal

-- the report with its number, quotient and remainder, and the found word
abbrev pub share_reply_of : ℕ → ℕ → ℕ → Option Word → ShareResult
share_reply_of N q r o =
    Ok (record { number = N; quotient = q; remainder = r; sentence = found_of o })

-- a length that is taken on: 23 and 24 are not given
pub record Length (g : Rules) (n : ℕ) : Type 0 where
  pub low : 1 ≤ n
  pub high : n ≤ 7
  pub few : total g n ≤ sweep_limit

-- a share that is taken on: 45, 46 and 21 are not given either
pub record ShareTaken (g : Rules) (n p i : ℕ) (words : List ℕ) : Type 0 where
  pub size : Length g n
  pub least : 1 ≤ p
  pub most : p ≤ 64
  pub below : i < p
  pub enough : 2 * pairs n ≤ length words

-- the answer on the rules that the sheet gives, for share i of p racks and n tokens
pub data ShareOn (g : Rules) (n p i : ℕ) (words words' : List ℕ) (r : ShareResult) : Type 0 where
  -- n not 1 to 7
  bound : {f : Fault} → (n < 1) ⊎ (7 < n) → number_of f ≡ 23
      → r ≡ refusal f 0 → words' ≡ words → ShareOn g n p i words words' r
  -- M above the limit
  many : {f : Fault} → 1 ≤ n → n ≤ 7 → sweep_limit < total g n → number_of f ≡ 24
      → r ≡ refusal f 0 → words' ≡ words → ShareOn g n p i words words' r
  -- p not 1 to 64
  racks : {f : Fault} → Length g n → (p < 1) ⊎ (64 < p) → number_of f ≡ 45
      → r ≡ refusal f 0 → words' ≡ words → ShareOn g n p i words words' r
  -- the share not below p
  beyond : {f : Fault} → Length g n → 1 ≤ p → p ≤ 64 → p ≤ i → number_of f ≡ 46
      → r ≡ refusal f 0 → words' ≡ words → ShareOn g n p i words words' r
  -- fewer words than the span sheet of n tokens needs
  short : {f : Fault} → Length g n → 1 ≤ p → p ≤ 64 → i < p → length words < 2 * pairs n
      → number_of f ≡ 21 → r ≡ refusal f 0 → words' ≡ words → ShareOn g n p i words words' r
  -- clear: no number of the share whose arrangement rises has two trees
  clear : ShareTaken g n p i words → Reports g n p i none
      → r ≡ share_reply_of 0 (total g n / p) (total g n % p) None
      → words' ≡ cleared n words → ShareOn g n p i words words' r
  -- two: the lowest number of the share whose arrangement rises and has two trees, and its sentence
  two : {cs : List Cell} → ShareTaken g n p i words → Reports g n p i (some cs)
      → r ≡ share_reply_of (number g n cs) (total g n / p) (total g n % p) (Some (sentence cs))
      → words' ≡ cleared n words → ShareOn g n p i words words' r

-- what the call answers, and what it leaves of the lent words
pub data ShareOf (rules : List ℕ) (n p i : ℕ) (words words' : List ℕ) (r : ShareResult) : Type
    0 where
  -- a refused rule sheet
  refusing : {f : Fault} {l : ℕ} → RefusedAs (rule_sheet rules) f l
      → r ≡ refusal f l → words' ≡ words → ShareOf rules n p i words words' r
  reading : {g : Rules} → rule_sheet rules ≡ accepted g → ShareOn g n p i words words' r
      → ShareOf rules n p i words words' r

-- what a report tells: clear, or two with a sentence, of no tokens where none was found; its
-- number,
-- quotient and remainder, 0 where the call is refused
abbrev pub share_told : ShareResult → Answer
share_told r = told_answer (λ (s : Report). found_answer s.sentence) r

abbrev pub share_sentence : ShareResult → Sentence
share_sentence r = told_value (λ (s : Report). found_or s.sentence) no_sentence r

abbrev pub share_number : ShareResult → ℕ
share_number r = told_value (λ (s : Report). s.number) 0 r

abbrev pub share_quotient : ShareResult → ℕ
share_quotient r = told_value (λ (s : Report). s.quotient) 0 r

abbrev pub share_remainder : ShareResult → ℕ
share_remainder r = told_value (λ (s : Report). s.remainder) 0 r
