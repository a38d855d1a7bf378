-- What the reply says of the rules that the sheet gives.
use Rattle.std.specs.Prelude.{◌≡◌, ℕ, Result, Ok}
use Rattle.grammar.specs.Trees.{Rules}
use Rattle.sheets.specs.declared.Fault.{Fault}
use Rattle.sheets.specs.Items.{Reading, accepted}
use Rattle.pairs.specs.Always.{AlwaysClear}
use Rattle.pairs.specs.Doubts.{Doubt, Doubted}
use Rattle.sheets.specs.declared.Refusal.{Refusal}
use Rattle.sheets.specs.Results.{refusal}
use Rattle.call_always.specs.declared.Told.{Told}
use Rattle.call_always.specs.declared.Told.TheVariants as Told

-- a refusal; clear: no sequence of tokens of any length has two trees; unknown: there is a doubt
pub data AlwaysMeans (given : Reading Rules) (r : Result Told Refusal) : Type 0 where
  refusing : {f : Fault} {l : ℕ} → r ≡ refusal f l → AlwaysMeans given r
  clear : {g : Rules} → given ≡ accepted g → AlwaysClear g → r ≡ Ok Told.Clear
      → AlwaysMeans given r
  unknown : {g : Rules} {n : ℕ} (d : Doubt) → given ≡ accepted g → Doubted g d
      → r ≡ Ok (Told.Unknown n)
      → AlwaysMeans given r
