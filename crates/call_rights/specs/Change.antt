-- The promise of the call `change`: docs/FORMAT.md, "Closed nodes".
use Rattle.std.specs.Prelude.{◌≡◌, true, List, ℕ, ◌-◌, ◌≤◌, length, Result}
use Rattle.std.proofs.Math.Option.{some}
use Rattle.std.proofs.Math.ListN.{get_elem?}
use Rattle.grammar.specs.declared.Rule.{Rule}
use Rattle.grammar.specs.Trees.{Rules}
use Rattle.tree_view.specs.Shown.{View}
use Rattle.sheets.specs.declared.Fault.{Fault}
use Rattle.sheets.specs.Refusals.{number_of, RefusedAs}
use Rattle.sheets.specs.Items.{accepted}
use Rattle.sheets.specs.RuleSheets.{rule_sheet}
use Rattle.rights.specs.declared.Right.{Right}
use Rattle.rights.specs.RightSheets.{rights_sheet, may_change_of}
use Rattle.mark_change.specs.Changed.{changed, changed_sheet}
use Rattle.sheets.specs.declared.Refusal.{Refusal}
use Rattle.sheets.specs.Results.{refusal}
use Rattle.list_answers.specs.Lists.{ListOn}

-- the rule at place p, counted from 1, exists, and its left may be changed
pub record MayRule (may : View) (g : Rules) (p : ℕ) : Type 0 where
  pub low : 1 ≤ p
  pub rule : Rule
  pub stands : get_elem? g (p - 1) ≡ some rule
  pub left : may rule.left ≡ true

-- the answer where the user may replace that rule's mark
pub data ChangeDone (rules : List ℕ) (p : ℕ) (lay bytes bytes' : List ℕ)
    (r : Result ℕ Refusal) : Type 0 where
  -- no word of lay (2 in that rule's line), or the changed sheet is refused: nothing changes
  unfit : {f : Fault} {l : ℕ} → RefusedAs (changed_sheet rules p lay) f l → r ≡ refusal f l
      → bytes' ≡ bytes → ChangeDone rules p lay bytes bytes' r
  -- otherwise it is given as a list of its bytes, or refused 22
  given : {h : Rules} → changed_sheet rules p lay ≡ accepted h
      → ListOn (changed rules p lay) (length (changed rules p lay)) bytes bytes' r
      → ChangeDone rules p lay bytes bytes' r

-- the answer on rules that the sheet gives
pub data ChangeOn (may : View) (rules : List ℕ) (g : Rules) (p : ℕ) (lay bytes bytes' : List ℕ)
    (r : Result ℕ Refusal) : Type 0 where
  -- 51: the user may not change that rule, or it does not exist
  barred : {f : Fault} → (MayRule may g p → ⊥) → number_of f ≡ 51 → r ≡ refusal f 0
      → bytes' ≡ bytes → ChangeOn may rules g p lay bytes bytes' r
  allowed : MayRule may g p → ChangeDone rules p lay bytes bytes' r
      → ChangeOn may rules g p lay bytes bytes' r

-- what the call answers, and what it leaves of the lent bytes
pub data ChangeOf (rules rights : List ℕ) (user p : ℕ) (lay bytes bytes' : List ℕ)
    (r : Result ℕ Refusal) : Type 0 where
  -- a refused rule sheet, then a refused rights sheet
  refusing : {f : Fault} {l : ℕ} → RefusedAs (rule_sheet rules) f l → r ≡ refusal f l
      → bytes' ≡ bytes → ChangeOf rules rights user p lay bytes bytes' r
  barring : {g : Rules} {f : Fault} {l : ℕ} → rule_sheet rules ≡ accepted g
      → RefusedAs (rights_sheet rights) f l
      → r ≡ refusal f l → bytes' ≡ bytes → ChangeOf rules rights user p lay bytes bytes' r
  reading : {g : Rules} {rs : List Right} → rule_sheet rules ≡ accepted g
      → rights_sheet rights ≡ accepted rs
      → ChangeOn (may_change_of rs user) rules g p lay bytes bytes' r
      → ChangeOf rules rights user p lay bytes bytes' r
