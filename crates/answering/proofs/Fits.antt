-- The rows that a call for trees answers stand in the lent memories.
use mathlib.Core.Path.{◌≡◌, ap}
use mathlib.Core.List.{List}
use Prim.Native.Nat.{ℕ, ◌≤◌}
use native.Mathlib.Omega.{arith}
use Rattle.grammar.specs.Layout.{Word}
use Rattle.grammar.specs.Trees.{Rules}
use Rattle.answering.specs.Answers.{Sheets}
use Rattle.sheets.specs.declared.Refusal.{Refusal}
use Rattle.answering.specs.declared.TreeRows.{TreeRows}
use Rattle.answering.specs.Results.{first_rows, second_rows}
use Rattle.std.specs.Prelude.{Result}
use Rattle.tree_writer.specs.Written.{Display, row_room}
use Rattle.answering.specs.Trees.{Shown, treeless, single, both, large_one, large_two}
use Rattle.answering.specs.Trees.{TreesOn}
use Rattle.answering.specs.Trees.{short, showing, TreesBy, refusing, reading}

-- each count is at most the memory's places
pub record Fits (one two : List ℕ) (r : Result TreeRows Refusal) : Type 0 where
  pub first : first_rows r ≤ row_room one
  pub second : second_rows r ≤ row_room two

pub counted : {one two : List ℕ} {r s : Result TreeRows Refusal} → r ≡ s → Fits one two s
    → Fits one two r
counted e f =
    record {
      first = omega (arith, f.first, ap first_rows e);
      second = omega (arith, f.second, ap second_rows e);
    }

shown_fits : {dis : Display} {g : Rules} {w : Word} {one one' two two' : List ℕ}
    {r : Result TreeRows Refusal}
    → Shown dis g w one one' two two' r → Fits one two r
shown_fits (treeless p x h i) = counted x (record { first = omega arith; second = omega arith })
shown_fits (single p t l x h i) = counted x (record { first = l; second = omega arith })
shown_fits (both p t u l m x h i) = counted x (record { first = l; second = m })
shown_fits (large_one p t l n x h i) =
    counted x (record { first = omega arith; second = omega arith })
shown_fits (large_two p t u l n x h i) =
    counted x (record { first = omega arith; second = omega arith })

pub on_fits : {dis : Display} {g : Rules} {w : Word} {words words' one one' two two' : List ℕ}
    {r : Result TreeRows Refusal} → TreesOn dis g w words words' one one' two two' r
    → Fits one two r
on_fits (short l n x h i j) = counted x (record { first = omega arith; second = omega arith })
on_fits (showing f s) = shown_fits s

pub trees_fit : {given : Sheets} {words words' one one' two two' : List ℕ}
    {r : Result TreeRows Refusal}
    → TreesBy given words words' one one' two two' r → Fits one two r
trees_fit (refusing e x h i j) = counted x (record { first = omega arith; second = omega arith })
trees_fit (reading e s) = on_fits s
