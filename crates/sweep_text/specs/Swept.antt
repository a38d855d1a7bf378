-- What stands in the lent output after a sweep (for inner functions).
use Rattle.std.specs.Prelude.{◌≡◌, List, ℕ}
use Rattle.std.specs.Prelude.{None, Some}
use Rattle.printing.specs.Printing.{Wrote}
use Rattle.sheets.specs.RuleSheets.{rule_sheet}
use Rattle.sweep_text.specs.Bound.{bound_of}
use Rattle.text.specs.Output.{refused_text_of, head}
use Rattle.sweep_text.specs.Sweep.{SweepText}
use Rattle.text.specs.Printed.{Printed}

-- the bound is not so written, or the answer was put
pub data SweptAt (before behind out out' : List ℕ) (r : ℕ) : Type 0 where
  unbound : bound_of before ≡ None → Wrote out out' 0 (head (refused_text_of 32) 0) r
      → SweptAt before behind out out' r
  bound : {k : ℕ} → bound_of before ≡ Some k → Printed (SweepText k) (rule_sheet behind) out out' r
      → SweptAt before behind out out' r
