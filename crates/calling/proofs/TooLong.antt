-- The output for an input that is too long.
use mathlib.Core.Path.{refl}
use mathlib.Core.List.{List}
use Prim.Native.Nat.{ℕ, ◌<◌}
use lib.ListN.{length}
use Rattle.printing.specs.Printing.{Wrote}
use Rattle.text.specs.Output.{refused_text_of, head}
use Rattle.text.specs.Printed.{Printed}
use Rattle.calling.specs.Calls.{CallsOf, long}

pub too_long : {input out out' : List ℕ} {r : ℕ} → 16384 < length input
    → Wrote out out' 0 (head (refused_text_of 31) 0) r → Printed CallsOf input out out' r
too_long h w = record { text = head (refused_text_of 31) 0; is = long h refl; wrote = w }
