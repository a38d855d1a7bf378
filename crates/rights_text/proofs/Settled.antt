-- The promises of the texts of `show` and `change` settle the whole output.
use mathlib.Core.Path.{◌≡◌, sym, ◌∙◌}
use mathlib.Core.List.{List, ◌++◌}
use Prim.Native.Nat.{ℕ}
use Rattle.call_rights.proofs.Settled.{show_reply, change_reply}
use Rattle.answering.specs.Results.{trees_told}
use Rattle.list_answers.specs.Lists.{list_told}
use Rattle.sheets.specs.Results.{told_line}
use Rattle.text.specs.Output.{answer_text, head, trees_text}
use Rattle.rights_text.specs.Texts.{ShowText, shown, ChangeText, changing}

pub show_text_settled : {rules tokens rights : List ℕ} {user : ℕ} {a b : List ℕ}
    → ShowText rules tokens rights user a → ShowText rules tokens rights user b → a ≡ b
show_text_settled (shown l x p) (shown k y q) =
    let z = show_reply (l.enough ∙ sym k.enough) (l.first ∙ sym k.first)
    (l.second ∙ sym k.second) x y in
    p ∙ (λ i. head (answer_text (trees_told (z.0 i))) (told_line (z.0 i))
    ++ trees_text (trees_told (z.0 i)) (z.1.0 i) (z.1.1 i)) ∙ sym q

pub change_text_settled : {rules rights : List ℕ} {user rule : ℕ} {lay a b : List ℕ}
    → ChangeText rules rights user rule lay a → ChangeText rules rights user rule lay b → a ≡ b
change_text_settled (changing l x p) (changing k y q) =
    let z = change_reply (l ∙ sym k) x y in
    p ∙ (λ i. head (answer_text (list_told (z.0 i))) (told_line (z.0 i)) ++ z.1 i) ∙ sym q
