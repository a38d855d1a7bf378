-- The promise of the text of `columns` settles the whole output.
use mathlib.Core.Path.{◌≡◌, sym, ap, ◌∙◌}
use mathlib.Core.List.{List, ◌++◌}
use Prim.Native.Nat.{ℕ}
use Rattle.std.specs.Prelude.{Result}
use Rattle.column_search.specs.declared.Flags.{Flags}
use Rattle.sheets.specs.declared.Refusal.{Refusal}
use Rattle.sheets.specs.Results.{told_line}
use Rattle.call_columns.specs.Columns.{columns_told, flags_of}
use Rattle.call_columns.proofs.Settled.{columns_reply}
use Rattle.text.specs.Output.{answer_text, head}
use Rattle.column_text.specs.Columns.{columns_text, ColumnsTextOf, answered}

pub columns_text_settled : {rules ranges a b : List ℕ} → ColumnsTextOf rules ranges a
    → ColumnsTextOf rules ranges b → a ≡ b
columns_text_settled {rules} {ranges} (answered l x p) (answered m y q) =
    p ∙ ap (λ (r : Result Flags Refusal). head (answer_text (columns_told r)) (told_line r)
    ++ columns_text (columns_told r) (flags_of r)) (columns_reply rules ranges (l ∙ sym m) x y)
    ∙ sym q
