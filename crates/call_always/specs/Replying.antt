-- The reply on a list. For the contracts of inner functions only.
use Rattle.std.specs.Prelude.{List, ℕ, length, Option, Some, None, Result}
use Rattle.grammar.specs.Trees.{Rules}
use Rattle.lists.specs.Lists.{bytes_of, GivesList}
use Rattle.sheets.specs.declared.Fault.TheVariants as Fault
use Rattle.pairs.specs.Doubts.{Doubt, AllDoubts}
use Rattle.doubt_list.specs.Entries.{doubt_bytes}
use Rattle.sheets.specs.declared.Refusal.{Refusal}
use Rattle.sheets.specs.Results.{refusal}
use Rattle.call_always.specs.declared.Told.{Told}
use Rattle.call_always.specs.Always.{always_reply_of}

abbrev pub replied : Option ℕ → Result Told Refusal
replied (Some n) = always_reply_of n
replied None = refusal Fault.FewRows 0

-- all doubts in the lent bytes, or refusal 22
pub record DoubtsTold (g : Rules) (lent lent' : List ℕ) (r : Result Told Refusal)
    : Type 0 where
  pub entries : List Doubt
  pub doubts : AllDoubts g entries
  pub gives :
      GivesList always_reply_of (refusal Fault.FewRows 0) (bytes_of doubt_bytes entries)
      (length entries) lent lent' r
