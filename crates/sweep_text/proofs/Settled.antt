-- The promise of `sweep_text` settles the whole output: two outputs for the same input are the
-- same.
use mathlib.Core.Path.{◌≡◌, sym, ap, ◌∙◌}
use mathlib.Core.List.{List}
use Prim.Native.Nat.{ℕ}
use native.Mathlib.Omega.{arith}
use Rattle.std.specs.Prelude.{Option, None, Some}
use Rattle.sets.proofs.Basics.{clash}
use Rattle.grammar.specs.Trees.{Rules}
use Rattle.sheets.specs.Items.{Reading}
use Rattle.sweep_answers.proofs.Lent.{sweep_reply}
use Rattle.sweep_text.specs.Answered.{swept_text}
use Rattle.text.specs.Printed.{Printed}
use Rattle.text.proofs.Settled.{never_none, same_some, printed_settled}
use Rattle.sweep_text.specs.Sweep.{SweepText, swept, SweepTextOf, long, whole, unbound}
use Rattle.sweep_text.specs.Sweep.{bounded}

no_bound : {o : Option ℕ} {k : ℕ} → o ≡ None → o ≡ Some k → ⊥
no_bound e d = clash cc

same_bound : {o : Option ℕ} {j k : ℕ} → o ≡ Some j → o ≡ Some k → j ≡ k
same_bound e d = cc

pub sweep_text_settled : {k : ℕ} {given : Reading Rules} {a b : List ℕ} → SweepText k given a
    → SweepText k given b → a ≡ b
sweep_text_settled (swept l x p) (swept m y q) =
    p ∙ ap swept_text (sweep_reply (l ∙ sym m) x y) ∙ sym q

pub sweep_output_settled : (input : List ℕ) {a b : List ℕ} → SweepTextOf input a
    → SweepTextOf input b → a ≡ b
sweep_output_settled input (long l x) (long m y) = x ∙ sym y
sweep_output_settled input (long l x) (whole m e y) = absurd (omega arith)
sweep_output_settled input (long l x) (unbound m e b y) = absurd (omega arith)
sweep_output_settled input (long l x) (bounded m e b y) = absurd (omega arith)
sweep_output_settled input (whole m e y) (long l x) = absurd (omega arith)
sweep_output_settled input (whole l e x) (whole m d y) = x ∙ sym y
sweep_output_settled input (whole l e x) (unbound m d b y) =
    absurd (never_none e d)
sweep_output_settled input (whole l e x) (bounded m d b y) =
    absurd (never_none e d)
sweep_output_settled input (unbound m e b y) (long l x) = absurd (omega arith)
sweep_output_settled input (unbound m d b y) (whole l e x) =
    absurd (never_none e d)
sweep_output_settled input (unbound l e b x) (unbound m d c y) = x ∙ sym y
sweep_output_settled input (unbound {p = p} l e b x) (bounded {p = q} m d c y) =
    let z : p ≡ q = same_some e d in
    absurd (no_bound b (rw (← z) at c))
sweep_output_settled input (bounded m e b y) (long l x) = absurd (omega arith)
sweep_output_settled input (bounded m d b y) (whole l e x) =
    absurd (never_none e d)
sweep_output_settled input (bounded {p = q} m d c y) (unbound {p = p} l e b x) =
    let z : p ≡ q = same_some e d in
    absurd (no_bound b (rw (← z) at c))
sweep_output_settled input (bounded {p = p} {k = k} l e b x)
    (bounded {p = q} {k = j} m d c y) =
    let z : p ≡ q = same_some e d in
    let u : k ≡ j = same_bound b (rw (← z) at c) in
    sweep_text_settled x (rw (← z, ← u) at y)

pub sweep_printed_settled : {input out x y : List ℕ} {r s : ℕ} → Printed SweepTextOf input out x r
    → Printed SweepTextOf input out y s → (r ≡ s) × (x ≡ y)
sweep_printed_settled {input} p q =
    printed_settled (λ a b. sweep_output_settled input {a = a} {b = b}) p q
