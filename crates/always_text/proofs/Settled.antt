-- The promise of the text settles the whole output.
use mathlib.Core.Path.{◌≡◌, sym, ◌∙◌}
use mathlib.Core.List.{List, ◌++◌}
use Prim.Native.Nat.{ℕ}
use Rattle.grammar.specs.Trees.{Rules}
use Rattle.sheets.specs.Items.{Reading}
use Rattle.sheets.specs.Results.{told_line}
use Rattle.text.specs.Output.{head}
use Rattle.call_always.proofs.Settled.{always_reply}
use Rattle.always_text.specs.Always.{told_text, doubts_text, AlwaysText, answered}

pub always_text_settled : {given : Reading Rules} {a b : List ℕ} → AlwaysText given a
    → AlwaysText given b → a ≡ b
always_text_settled (answered {list' = m} l k x p) (answered {list' = n} l' k' y q) =
    let z = always_reply m n (l ∙ sym l') (k ∙ sym k') x y in
    p
    ∙ (λ i. head (told_text (z.0 i)) (told_line (z.0 i)) ++ doubts_text (z.0 i) (z.1 i))
    ∙ sym q
