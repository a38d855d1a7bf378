-- What was put stands within the buffer.
use mathlib.Core.Path.{◌≡◌, refl, sym, ap, ◌∙◌}
use mathlib.Core.Bool.{Bool, true, false}
use mathlib.Core.List.{List}
use Prim.Native.Nat.{ℕ, ◌≤◌}
use borrow.Author.Tests.{leb-true, leb-false}
use lib.Dec.{leb}
use native.Mathlib.Omega.{arith}
use lib.ListN.{length, take}
use lib.Seq.{take_all}
use Rattle.printing.specs.Printing.{Wrote}
use Rattle.text.specs.Printed.{Printed}

wrote_within : {old new text : List ℕ} {r : ℕ} → Wrote old new 0 text r → r ≤ length new
wrote_within {old} {new} {text} {r} w = go (leb r (length new)) refl
  where
    go : (b : Bool) → leb r (length new) ≡ b → r ≤ length new
    go true e = leb-true r (length new) e
    go false e =
        let h = leb-false r (length new) e in
        let g : take r new ≡ new = take_all r new (omega (arith, h)) in
        let f : length new ≡ length text = ap length (sym g ∙ w.front) in
        omega (arith, f, h, w.next)

pub printed_within : {A : Type 0} {Of : A → List ℕ → Type 0} {input : A} {out out' : List ℕ} {r : ℕ}
    → Printed Of input out out' r → r ≤ length out'
printed_within p = wrote_within p.wrote
