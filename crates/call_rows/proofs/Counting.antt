-- The row counts of what was read, by what is counted.
use mathlib.Core.Path.{◌≡◌, refl, ap}
use mathlib.Core.List.{List}
use Prim.Native.Nat.{ℕ, ◌*◌, ◌<◌}
use native.Mathlib.Omega.{arith}
use lib.ListN.{length}
use Rattle.grammar.specs.Layout.{Word}
use Rattle.grammar.specs.Trees.{Tree, Rules, NoTree, OneTree, TwoTrees}
use Rattle.grammar.specs.Choices.{FirstTree, SecondTree}
use Rattle.grammar.specs.Rows.{row_count}
use Rattle.grammar.specs.SpanSheet.{pairs}
use Rattle.grammar.proofs.Existence.{first_of_derives}
use Rattle.sheets.specs.declared.Fault.TheVariants as Fault
use Rattle.std.specs.Prelude.{Option, Some, Result}
use Rattle.grammar.specs.declared.Verdict.{Verdict}
use Rattle.sheets.specs.declared.Refusal.{Refusal}
use Rattle.sheets.specs.Results.{refusal}
use Rattle.answering.specs.Verdict.{SheetFilled}
use Rattle.row_counts.specs.RowCounts.{treeless, single, both, Tells}
use Rattle.row_counts.specs.Nulls.{HasFirsts}
use Rattle.call_rows.specs.declared.CountedRows.{CountedRows}
use Rattle.call_rows.specs.Rows.{rows_reply_of, RowsOn, short, counting}

-- what derives a word has a first tree of it
pub has_firsts : {g : Rules} → HasFirsts g
has_firsts = record { first = λ A w d. first_of_derives d }

-- a tree that the verdict lacks
tells_none : Tells (Some 0) 0
tells_none = (refl, omega arith)

module _ {g : Rules} {w : Word} where
  pub too_few : {n : ℕ} {ws : List ℕ} {r : Result CountedRows Refusal} → length w ≡ n
      → length ws < 2 * pairs n
      → r ≡ refusal Fault.FewWords 0 → RowsOn g w ws ws r
  too_few e h q = short (omega (arith, ap pairs e)) refl q refl

  module _ {ws ws' : List ℕ} (x : SheetFilled g w ws ws') where
    pub counted_none : NoTree g 0 w
        → RowsOn g w ws ws' (rows_reply_of Verdict.None (Some 0) (Some 0))
    counted_none p = counting {m = 0} {n = 0} p (treeless p refl refl) tells_none tells_none refl x

    pub counted_one : {t : Tree} {m n : Option ℕ} → OneTree g 0 w → FirstTree g 0 w t
        → Tells m (row_count t) × Tells n 0 → RowsOn g w ws ws' (rows_reply_of Verdict.One m n)
    counted_one p f h = counting {n = 0} p (single p f refl refl) h.0 h.1 refl x

    pub counted_two : {t u : Tree} {m n : Option ℕ} → TwoTrees g 0 w → FirstTree g 0 w t
        → SecondTree g 0 w u → Tells m (row_count t) × Tells n (row_count u)
        → RowsOn g w ws ws' (rows_reply_of Verdict.Two m n)
    counted_two p f s h = counting p (both p f s refl refl) h.0 h.1 refl x
