-- The sets that were read are what a user may see and change.
use mathlib.Core.Path.{◌≡◌, subst}
use mathlib.Core.List.{List}
use Prim.Native.Nat.{ℕ}
use Rattle.std.specs.Prelude.{Result}
use Rattle.grammar.specs.Layout.{Word}
use Rattle.grammar.specs.Trees.{Rules}
use Rattle.tree_view.specs.Shown.{View}
use Rattle.tree_view.specs.Members.{member}
use Rattle.tree_writer.specs.Written.{seen_by}
use Rattle.sheets.specs.declared.Refusal.{Refusal}
use Rattle.rights.specs.declared.Right.{Right}
use Rattle.rights.specs.RightSheets.{may_see_of, may_change_of}
use Rattle.rights.specs.Answers.{RightsHeld}
use Rattle.answering.specs.declared.TreeRows.{TreeRows}
use Rattle.answering.specs.Trees.{TreesOn}
use Rattle.call_rights.specs.Change.{ChangeOn}

-- the sets that were read are what the sheet lets the user see and change
module _ {rs : List Right} {u a b : ℕ} (h : RightsHeld rs u a b) where
  sees_is : ◌≡◌ {A = View} (member a) (may_see_of rs u)
  sees_is = λ i A. h.see A i

  changes_is : ◌≡◌ {A = View} (member b) (may_change_of rs u)
  changes_is = λ i A. h.change A i

  pub by_sees : {g : Rules} {w : Word} {ws ws' one one' two two' : List ℕ}
      {r : Result TreeRows Refusal}
      → TreesOn (seen_by (member a)) g w ws ws' one one' two two' r
      → TreesOn (seen_by (may_see_of rs u)) g w ws ws' one one' two two' r
  by_sees {g} {w} {ws} {ws'} {one} {one'} {two} {two'} {r} x =
      subst (λ (v : View). TreesOn (seen_by v) g w ws ws' one one' two two' r) sees_is x

  pub by_changes : {s : List ℕ} {g : Rules} {p : ℕ} {lay l m : List ℕ} {r : Result ℕ Refusal}
      → ChangeOn (member b) s g p lay l m r → ChangeOn (may_change_of rs u) s g p lay l m r
  by_changes {s} {g} {p} {lay} {l} {m} {r} x =
      subst (λ (v : View). ChangeOn v s g p lay l m r) changes_is x
