-- The promise of `check_text` settles the whole output: two outputs for the same input are the
-- same.
use mathlib.Core.Path.{◌≡◌, sym, ◌∙◌}
use mathlib.Core.List.{List, ◌++◌}
use Prim.Native.Nat.{ℕ}
use native.Mathlib.Omega.{arith}
use Rattle.answering.specs.Answers.{Sheets}
use Rattle.answering.proofs.Settled.{Apart, sheets_apart}
use Rattle.answering.specs.Results.{trees_told}
use Rattle.answering.proofs.Lent.{trees_reply}
use Rattle.sheets.specs.Results.{told_line}
use Rattle.text.specs.Output.{answer_text, head, trees_text}
use Rattle.text.specs.Printed.{Printed}
use Rattle.text.proofs.Settled.{never_none, same_some, printed_settled}
use Rattle.check_text.specs.Check.{TreesText, answered, CheckOf, long, whole, checked}

pub trees_text_settled : {given : Sheets} {a b : List ℕ} → Apart given → TreesText given a
    → TreesText given b → a ≡ b
trees_text_settled d (answered l x p) (answered k y q) =
    let z = trees_reply (l.enough ∙ sym k.enough) (l.first ∙ sym k.first)
    (l.second ∙ sym k.second) d x y in
    p ∙ (λ i. head (answer_text (trees_told (z.0 i))) (told_line (z.0 i))
    ++ trees_text (trees_told (z.0 i)) (z.1.0 i) (z.1.1 i)) ∙ sym q

pub check_settled : (input : List ℕ) {a b : List ℕ} → CheckOf input a → CheckOf input b → a ≡ b
check_settled input (long l x) (long m y) = x ∙ sym y
check_settled input (long l x) (whole m e y) = absurd (omega arith)
check_settled input (long l x) (checked m e y) = absurd (omega arith)
check_settled input (whole m e y) (long l x) = absurd (omega arith)
check_settled input (whole l e x) (whole m d y) = x ∙ sym y
check_settled input (whole l e x) (checked m d y) = absurd (never_none e d)
check_settled input (checked m e y) (long l x) = absurd (omega arith)
check_settled input (checked m d y) (whole l e x) = absurd (never_none e d)
check_settled input (checked {p = p} l e x) (checked {p = q} m d y) =
    let z : p ≡ q = same_some e d in
    trees_text_settled (sheets_apart p.before p.behind) x (rw (← z) at y)

pub check_text_settled : {input out x y : List ℕ} {r s : ℕ} → Printed CheckOf input out x r
    → Printed CheckOf input out y s → (r ≡ s) × (x ≡ y)
check_text_settled {input} p q = printed_settled (λ a b. check_settled input {a = a} {b = b}) p q
