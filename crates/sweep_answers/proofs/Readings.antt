-- The promise of a sweep by what the reader answered is one by the sheet.
use mathlib.Core.Path.{◌≡◌}
use mathlib.Core.List.{List}
use Prim.Native.Nat.{ℕ}
use Rattle.grammar.specs.Trees.{Rules}
use Rattle.sheets.specs.Items.{Reading}
use Rattle.std.specs.Prelude.{Result}
use Rattle.sheets.specs.declared.Refusal.{Refusal}
use Rattle.sweep_answers.specs.declared.Swept.{Swept}
use Rattle.sweep_answers.specs.Sweep.{SweepBy}

pub sweep_by : {o o' : Reading Rules} (e : o ≡ o') {k : ℕ} {words words' : List ℕ}
    {r : Result Swept Refusal}
    → SweepBy o k words words' r → SweepBy o' k words words' r
sweep_by e x = rw e at x
