-- To a user who may see every nonterminal `show` promises what `trees` promises. Rights end at 63,
-- and so do the nonterminals of an accepted rule sheet.
use mathlib.Core.Path.{◌≡◌}
use mathlib.Core.Bool.{true}
use mathlib.Core.List.{List}
use Prim.Native.Nat.{ℕ, ◌<◌}
use Rattle.rights.specs.declared.Right.{Right}
use Rattle.rights.specs.RightSheets.{rights_sheet, may_see_of}
use Rattle.sheets.specs.Items.{accepted}
use Rattle.sheets.proofs.Once.{apart, same_items}
use Rattle.sheets.specs.RuleSheets.{rule_sheet}
use Rattle.sheets.proofs.Accepted.{rules_good}
use Rattle.std.specs.Prelude.{Result}
use Rattle.sheets.specs.declared.Refusal.{Refusal}
use Rattle.answering.specs.declared.TreeRows.{TreeRows}
use Rattle.answering.specs.Trees.{TreesOf}
use Rattle.answering.specs.Trees as Trees
use Rattle.answering.proofs.Settled.{both_sheets}
use Rattle.answering.proofs.Open.{open_trees}
use Rattle.call_rights.specs.Show.{ShowOf, refusing, barring, reading}

-- the whole promise: with rights that let the user see every nonterminal from 0 to 63, `show` is
-- `trees`
pub open_show : {rules tokens rights : List ℕ} {user : ℕ} {rs : List Right}
    → rights_sheet rights ≡ accepted rs → ((A : ℕ) → A < 64 → may_see_of rs user A ≡ true)
    → {words words' one one' two two' : List ℕ} {r : Result TreeRows Refusal}
    → ShowOf rules tokens rights user words words' one one' two two' r
    → TreesOf rules tokens words words' one one' two two' r
open_show e all (refusing d x h i j) = Trees.refusing d x h i j
open_show e all (barring d f x h i j) = absurd (apart f e)
open_show {rules} {tokens} {user = user} {rs = rs} e all (reading {g = g} {w = w} {rs = qs} d f x) =
    let z : qs ≡ rs = same_items f e in
    Trees.reading d (open_trees (may_see_of rs user) all g
    (rules_good rules g (both_sheets (rule_sheet rules) tokens g w d).0).small (rw z at x))
