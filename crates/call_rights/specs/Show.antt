-- The promise of the call `show`: docs/FORMAT.md, "Closed nodes".
use Rattle.std.specs.Prelude.{◌≡◌, List, ℕ, Result}
use Rattle.grammar.specs.Layout.{Word}
use Rattle.grammar.specs.Trees.{Rules}
use Rattle.tree_writer.specs.Written.{seen_by}
use Rattle.sheets.specs.Items.{accepted}
use Rattle.sheets.specs.declared.Fault.{Fault}
use Rattle.sheets.specs.Refusals.{RefusedAs}
use Rattle.rights.specs.declared.Right.{Right}
use Rattle.rights.specs.RightSheets.{rights_sheet, may_see_of}
use Rattle.sheets.specs.declared.Refusal.{Refusal}
use Rattle.sheets.specs.Results.{refusal}
use Rattle.answering.specs.declared.TreeRows.{TreeRows}
use Rattle.answering.specs.Answers.{sheets}
use Rattle.answering.specs.Trees.{TreesOn}

-- what the call answers, and what it leaves of the lent words and of both tree memories
pub data ShowOf (rules tokens rights : List ℕ) (user : ℕ) (words words' one one' two two' : List ℕ)
    (r : Result TreeRows Refusal) : Type 0 where
  -- a refused rule sheet or token sheet: nothing changes
  refusing : {f : Fault} {l : ℕ} → RefusedAs (sheets rules tokens) f l
      → r ≡ refusal f l → words' ≡ words → one' ≡ one → two' ≡ two
      → ShowOf rules tokens rights user words words' one one' two two' r
  -- then a refused rights sheet, 50 with its line
  barring : {g : Rules} {w : Word} {f : Fault} {l : ℕ} → sheets rules tokens ≡ accepted (g, w)
      → RefusedAs (rights_sheet rights) f l
      → r ≡ refusal f l → words' ≡ words → one' ≡ one → two' ≡ two
      → ShowOf rules tokens rights user words words' one one' two two' r
  -- otherwise the trees, as far as the user may see them
  reading : {g : Rules} {w : Word} {rs : List Right} → sheets rules tokens ≡ accepted (g, w)
      → rights_sheet rights ≡ accepted rs
      → TreesOn (seen_by (may_see_of rs user)) g w words words' one one' two two' r
      → ShowOf rules tokens rights user words words' one one' two two' r
