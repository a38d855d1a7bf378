-- The promise of the call for columns read off a photograph: docs/FORMAT.md, "The range sheet" and
-- "Refusals".
use Rattle.std.specs.Prelude.{◌≡◌, false, List, ℕ, ◌*◌, ◌≤◌, ◌<◌, length, Result, Ok}
use Rattle.grammar.specs.Trees.{Rules}
use Rattle.grammar.specs.SpanSheet.{pairs}
use Rattle.sheets.specs.declared.Fault.{Fault}
use Rattle.sheets.specs.Refusals.{number_of, RefusedAs}
use Rattle.sheets.specs.Items.{accepted}
use Rattle.sheets.specs.RuleSheets.{rule_sheet}
use Rattle.column_ranges.specs.Ranges.{Ranges}
use Rattle.column_search.specs.declared.Flags.{Flags}
use Rattle.column_search.specs.Answers.{FlagsSay}
use Rattle.sheets.specs.declared.Answer.{Answer}
use Rattle.sheets.specs.declared.Refusal.{Refusal}
use Rattle.sheets.specs.Results.{refusal, told_answer, told_value}
use Rattle.range_sheets.specs.RangeSheets.{range_sheet}
use Rattle.sweeping.specs.Cleared.{cleared}

-- no for each verdict
abbrev pub no_flags : Flags
no_flags = record { none = false; one = false; two = false }

-- what the result tells: `given`, and of each verdict if some rising choice gives it; no for all
-- where the call is refused
abbrev pub columns_told : Result Flags Refusal → Answer
columns_told r = told_answer (λ (f : Flags). Answer.Given) r

abbrev pub flags_of : Result Flags Refusal → Flags
flags_of r = told_value (λ (f : Flags). f) no_flags r

-- the answer on rules and ranges that both sheets give
pub data ColumnsOn (g : Rules) (rs : Ranges) (words words' : List ℕ) (r : Result Flags Refusal)
    : Type 0 where
  -- 21: fewer words than the span sheet of that many tokens needs; no word changes
  short : {f : Fault} → length words < 2 * pairs (length rs) → number_of f ≡ 21
      → r ≡ refusal f 0 → words' ≡ words → ColumnsOn g rs words words' r
  -- each flag says if some rising choice of columns gives its verdict; the words it needed end 0,
  -- the others are as they were
  given : {f : Flags} → 2 * pairs (length rs) ≤ length words → FlagsSay g rs f
      → r ≡ Ok f
      → words' ≡ cleared (length rs) words → ColumnsOn g rs words words' r

-- what the call answers, and what it leaves of the lent words: the rule sheet's refusals come
-- first, then the range sheet's
pub data ColumnsOf (rules ranges words words' : List ℕ) (r : Result Flags Refusal) : Type 0 where
  bad_rules : {f : Fault} {l : ℕ} → RefusedAs (rule_sheet rules) f l → r ≡ refusal f l
      → words' ≡ words → ColumnsOf rules ranges words words' r
  bad_ranges : {g : Rules} {f : Fault} {l : ℕ} → rule_sheet rules ≡ accepted g
      → RefusedAs (range_sheet ranges) f l → r ≡ refusal f l → words' ≡ words
      → ColumnsOf rules ranges words words' r
  reading : {g : Rules} {rs : Ranges} → rule_sheet rules ≡ accepted g
      → range_sheet ranges ≡ accepted rs → ColumnsOn g rs words words' r
      → ColumnsOf rules ranges words words' r
