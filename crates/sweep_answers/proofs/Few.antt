-- A found sentence has at most 7 tokens.
use mathlib.Core.Path.{◌≡◌, ap}
use mathlib.Core.List.{List}
use Prim.Native.Nat.{ℕ, ◌≤◌}
use native.Mathlib.Omega.{arith}
use Rattle.grammar.specs.Trees.{Rules}
use Rattle.grammar.proofs.SweepLaws.{sentence_length}
use Rattle.sheets.specs.Items.{Reading}
use Rattle.std.specs.Prelude.{Result}
use Rattle.sheets.specs.declared.Refusal.{Refusal}
use Rattle.sweep_answers.specs.declared.Swept.{Swept}
use Rattle.sweep_answers.specs.Sweep.{sweep_sentence}
use Rattle.sweep_answers.specs.Sweep as Sweep
use Rattle.sweep_answers.specs.SweepReplies.{SweepOn}

none_few : {r s : Result Swept Refusal} → r ≡ s → (sweep_sentence s).count ≤ 7
    → (sweep_sentence r).count ≤ 7
none_few e h = omega (arith, ap (λ (x : Result Swept Refusal). (sweep_sentence x).count) e)

on_few : {g : Rules} {k : ℕ} {words words' : List ℕ} {r : Result Swept Refusal}
    → SweepOn g k words words' r
    → (sweep_sentence r).count ≤ 7
on_few (Sweep.bound l n x h) = none_few x (omega arith)
on_few (Sweep.many l u m n x h) = none_few x (omega arith)
on_few (Sweep.short l u m o n x h) = none_few x (omega arith)
on_few (Sweep.clear t c q x h) = none_few x (omega arith)
on_few (Sweep.two {cs = cs} t f c q x h) =
    none_few x (omega (arith, sentence_length 1 cs, f.high, t.high))

pub sweep_few : {given : Reading Rules} {k : ℕ} {words words' : List ℕ} {r : Result Swept Refusal}
    → Sweep.SweepBy given k words words' r → (sweep_sentence r).count ≤ 7
sweep_few (Sweep.refusing e x h) = none_few x (omega arith)
sweep_few (Sweep.reading e s) = on_few s
