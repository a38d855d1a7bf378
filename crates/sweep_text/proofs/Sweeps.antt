-- The bound that was read, and the output of `sweep` behind it.
use mathlib.Core.Path.{◌≡◌, refl}
use mathlib.Core.List.{List}
use mathlib.Core.Option.{some}
use Prim.Native.Nat.{ℕ, ◌≤◌}
use lib.ListN.{length}
use Rattle.text.specs.Input.{longest, Parts, parts}
use Rattle.sweep_text.specs.Sweep.{SweepTextOf}
use Rattle.sweep_text.specs.Sweep as Program
use Rattle.text.specs.Printed.{Printed}
use Rattle.sweep_text.specs.Swept.{SweptAt, unbound, bound}

-- what was put behind the bound is what the program writes
pub swept_printed : {input out out' : List ℕ} {r : ℕ} {p : Parts} → length input ≤ longest
    → parts input ≡ some p → SweptAt p.before p.behind out out' r
    → Printed SweepTextOf input out out' r
swept_printed s e (unbound b w) = record { text = _; is = Program.unbound s e b refl; wrote = w }
swept_printed s e (bound b t) =
    record { text = t.text; is = Program.bounded s e b t.is; wrote = t.wrote }
