-- The verdict on what was read, by what the chart answers.
use mathlib.Core.Path.{◌≡◌, refl, ap}
use mathlib.Core.List.{List}
use Prim.Native.Nat.{ℕ, ◌*◌, ◌<◌}
use native.Mathlib.Omega.{arith}
use lib.ListN.{length}
use Rattle.std.specs.Prelude.{Result}
use Rattle.grammar.specs.Layout.{Word}
use Rattle.grammar.specs.Trees.{Rules}
use Rattle.grammar.specs.SpanSheet.{pairs}
use Rattle.grammar.specs.declared.Verdict.{Verdict}
use Rattle.sheets.specs.declared.Fault.TheVariants as Fault
use Rattle.sheets.specs.declared.Refusal.{Refusal}
use Rattle.sheets.specs.Results.{refusal}
use Rattle.answering.specs.Verdict.{VerdictOn, short}

pub too_few : (g : Rules) (w : Word) (n : ℕ) (ws : List ℕ) {r : Result Verdict Refusal}
    → length w ≡ n → length ws < 2 * pairs n → r ≡ refusal Fault.FewWords 0
    → VerdictOn g w ws ws r
too_few g w n ws e h q = short (omega (arith, ap pairs e)) refl q refl
