-- A text that settles the output settles the buffer: how many bytes are written, and each of its
-- bytes.
use mathlib.Core.Path.{◌≡◌, sym, ◌∙◌}
use mathlib.Core.List.{List, ◌++◌}
use mathlib.Core.Option.{Option, none, some}
use Prim.Native.Nat.{ℕ}
use lib.ListN.{take, drop, take-append-drop}
use Rattle.sets.proofs.Basics.{clash}
use Rattle.printing.specs.Printing.{Wrote}
use Rattle.text.specs.Printed.{Printed}

pub never_none : {A : Type 0} {o : Option A} {a : A} → o ≡ none → o ≡ some a → ⊥
never_none e d = clash cc

pub same_some : {A : Type 0} {o : Option A} {a b : A} → o ≡ some a → o ≡ some b → a ≡ b
same_some e d = cc

wrote_settled : {out x y text : List ℕ} {r s : ℕ} → Wrote out x 0 text r → Wrote out y 0 text s
    → (r ≡ s) × (x ≡ y)
wrote_settled {out} {x} {y} {text} {r} {s} p q =
    let e : r ≡ s = p.next ∙ sym q.next in
    let front : take r x ≡ take r y = p.front ∙ sym (rw (← e) at q.front) in
    let rest : drop r x ≡ drop r y = p.rest ∙ sym (rw (← e) at q.rest) in
    (e, sym (take-append-drop r x) ∙ (λ i. front i ++ rest i) ∙ take-append-drop r y)

pub printed_settled : {A : Type 0} {Of : A → List ℕ → Type 0} {input : A}
    → ((a b : List ℕ) → Of input a → Of input b → a ≡ b)
    → {out x y : List ℕ} {r s : ℕ} → Printed Of input out x r → Printed Of input out y s
    → (r ≡ s) × (x ≡ y)
printed_settled same p q =
    wrote_settled p.wrote (rw (← same p.text q.text p.is q.is) at q.wrote)
