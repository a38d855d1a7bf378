-- The promise of the text of `expand` settles the whole output.
use mathlib.Core.Path.{◌≡◌, sym, ◌∙◌}
use mathlib.Core.List.{List, ◌++◌}
use Prim.Native.Nat.{ℕ}
use Rattle.call_clauses.proofs.Settled.{expand_reply}
use Rattle.list_answers.specs.Lists.{list_told}
use Rattle.sheets.specs.Results.{told_line}
use Rattle.text.specs.Output.{answer_text, head}
use Rattle.clause_text.specs.Texts.{ExpandText, expanding}

pub expand_text_settled : {clauses a b : List ℕ} → ExpandText clauses a → ExpandText clauses b
    → a ≡ b
expand_text_settled (expanding l x p) (expanding k y q) =
    let z = expand_reply (l ∙ sym k) x y in
    p ∙ (λ i. head (answer_text (list_told (z.0 i))) (told_line (z.0 i)) ++ z.1 i) ∙ sym q
