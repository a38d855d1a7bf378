-- The rows that `show` answers stand in the lent memories, and the bytes that `change` answers in
-- the lent ones.
use mathlib.Core.List.{List}
use Prim.Native.Nat.{ℕ, ◌≤◌}
use native.Mathlib.Omega.{arith}
use lib.ListN.{length}
use Rattle.grammar.specs.Trees.{Rules}
use Rattle.tree_view.specs.Shown.{View}
use Rattle.std.specs.Prelude.{Result}
use Rattle.sheets.specs.declared.Refusal.{Refusal}
use Rattle.answering.specs.declared.TreeRows.{TreeRows}
use Rattle.list_answers.specs.Lists.{entry_count}
use Rattle.list_answers.proofs.ListSettled.{count_of, list_count}
use Rattle.answering.proofs.Fits.{Fits, counted, on_fits}
use Rattle.call_rights.specs.Show.{ShowOf}
use Rattle.call_rights.specs.Show as Show
use Rattle.call_rights.specs.Change.{ChangeDone, unfit, given, ChangeOn, barred, allowed, ChangeOf}
use Rattle.call_rights.specs.Change as Change

pub show_fit : {rules tokens rights : List ℕ} {user : ℕ} {words words' one one' two two' : List ℕ}
    {r : Result TreeRows Refusal}
    → ShowOf rules tokens rights user words words' one one' two two' r → Fits one two r
show_fit (Show.refusing e x h i j) =
    counted x (record { first = omega arith; second = omega arith })
show_fit (Show.barring e f x h i j) =
    counted x (record { first = omega arith; second = omega arith })
show_fit (Show.reading e f s) = on_fits s

done_count : {rules : List ℕ} {p : ℕ} {lay bytes bytes' : List ℕ} {r : Result ℕ Refusal}
    → ChangeDone rules p lay bytes bytes' r → entry_count r ≤ length bytes
done_count (unfit e x h) = count_of x (omega arith)
done_count (given e l) = list_count l

on_count : {may : View} {rules : List ℕ} {g : Rules} {p : ℕ} {lay bytes bytes' : List ℕ}
    {r : Result ℕ Refusal} → ChangeOn may rules g p lay bytes bytes' r
    → entry_count r ≤ length bytes
on_count (barred m n x h) = count_of x (omega arith)
on_count (allowed m d) = done_count d

pub change_count : {rules rights : List ℕ} {user p : ℕ} {lay bytes bytes' : List ℕ}
    {r : Result ℕ Refusal}
    → ChangeOf rules rights user p lay bytes bytes' r → entry_count r ≤ length bytes
change_count (Change.refusing e x h) = count_of x (omega arith)
change_count (Change.barring e f x h) = count_of x (omega arith)
change_count (Change.reading e f o) = on_count o
