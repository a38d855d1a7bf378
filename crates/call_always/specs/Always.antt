-- The promise of the test at every length: docs/FORMAT.md, "Calls and lent memory", on lists that
-- later calls give.
use Rattle.std.specs.Prelude.{◌≡◌, List, ◌++◌, ℕ, zero, suc, ◌≤◌, ◌<◌, length, drop, replicate}
use Rattle.std.specs.Prelude.{Result, Ok}
use Rattle.grammar.specs.Trees.{Rules}
use Rattle.lists.specs.Lists.{bytes_of, GivesList}
use Rattle.sheets.specs.declared.Fault.{Fault}
use Rattle.sheets.specs.Refusals.{number_of, RefusedAs}
use Rattle.sheets.specs.Items.{Reading, accepted}
use Rattle.sheets.specs.RuleSheets.{rule_sheet}
use Rattle.pairs.specs.Doubts.{Doubt, AllDoubts}
use Rattle.doubt_list.specs.Entries.{doubt_bytes}
use Rattle.sheets.specs.declared.Refusal.{Refusal}
use Rattle.sheets.specs.Results.{refusal, told_value}
use Rattle.call_always.specs.declared.Told.{Told}
use Rattle.call_always.specs.declared.Told.TheVariants as Told

-- clear, where the list has no entry; else unknown, with its number of entries
abbrev pub always_reply_of : ℕ → Result Told Refusal
always_reply_of zero = Ok Told.Clear
always_reply_of (suc n) = Ok (Told.Unknown (suc n))

-- the words of the test's tables, whatever the sheet
abbrev pub always_words : ℕ
always_words = 73728

-- they end 0, and the words past them are as they were
abbrev pub emptied : List ℕ → List ℕ
emptied words = replicate always_words 0 ++ drop always_words words

-- the answer on the rules that the sheet gives
pub data AlwaysOn (g : Rules) (words words' list list' : List ℕ) (r : Result Told Refusal) : Type
    0 where
  -- fewer words than the tables need: nothing changes
  short : {f : Fault} → length words < always_words → number_of f ≡ 21
      → r ≡ refusal f 0 → words' ≡ words → list' ≡ list
      → AlwaysOn g words words' list list' r
  -- all doubts, four bytes an entry, or refusal 22 where they do not fit
  listing : {ds : List Doubt} {f : Fault} → always_words ≤ length words → AllDoubts g ds
      → number_of f ≡ 22
      → GivesList always_reply_of (refusal f 0) (bytes_of doubt_bytes ds) (length ds) list
      list' r
      → words' ≡ emptied words → AlwaysOn g words words' list list' r

-- what a call answers where the sheet with the rules gives this, and what it leaves of the lent
-- words and of the lent bytes
pub data AlwaysBy (given : Reading Rules) (words words' list list' : List ℕ)
    (r : Result Told Refusal) : Type 0 where
  -- a refused sheet: nothing changes
  refusing : {f : Fault} {l : ℕ} → RefusedAs given f l
      → r ≡ refusal f l → words' ≡ words → list' ≡ list
      → AlwaysBy given words words' list list' r
  reading : {g : Rules} → given ≡ accepted g → AlwaysOn g words words' list list' r
      → AlwaysBy given words words' list list' r

-- the call on a rule sheet
abbrev pub AlwaysOf : (rules words words' list list' : List ℕ) (r : Result Told Refusal) → Type 0
AlwaysOf rules = AlwaysBy (rule_sheet rules)

-- the number of entries that is told, 0 where the call is refused
abbrev pub entries_told : Told → ℕ
entries_told Told.Clear = 0
entries_told (Told.Unknown n) = n

abbrev pub always_count : Result Told Refusal → ℕ
always_count r = told_value entries_told 0 r
