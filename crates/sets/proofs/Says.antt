-- Laws of what a bool says.
use mathlib.Core.Path.{◌≡◌, sym, subst}
use mathlib.Core.Bool.{Bool, true, false}
use Prim.Native.Nat.{ℕ, ◌≤◌, ◌<◌}
use native.Mathlib.Nat.{not-le_of_lt}
use lib.Dec.{eqb, ltb, leb}
use borrow.Author.Tests.{eqb-true, eqb-false, ltb-true, ltb-false, leb-true, leb-false}
use Rattle.sets.specs.Says.{Says}

abbrev on_true : Bool → Type 0
on_true true = Unit {0}
on_true false = ⊥

pub true_not_false : true ≡ false → ⊥
true_not_false e = subst on_true e tt

pub holds : {P : Type 0} → P → Says true P
holds p = record { is = λ e. p; isnt = λ e. absurd (true_not_false e) }

pub fails : {P : Type 0} → (P → ⊥) → Says false P
fails n = record { is = λ e. absurd (true_not_false (sym e)); isnt = λ e. n }

-- a test of numbers says that they are equal
pub says_eqb : (m n : ℕ) → Says (eqb m n) (m ≡ n)
says_eqb m n = record { is = eqb-true m n; isnt = eqb-false m n }

pub says_ltb : (m n : ℕ) → Says (ltb m n) (m < n)
says_ltb m n = record { is = ltb-true m n; isnt = λ e h. not-le_of_lt h (ltb-false m n e) }

pub says_leb : (m n : ℕ) → Says (leb m n) (m ≤ n)
says_leb m n = record { is = leb-true m n; isnt = λ e h. not-le_of_lt (leb-false m n e) h }

pub says_iff : {b : Bool} {P Q : Type 0} → (P → Q) → (Q → P) → Says b P → Says b Q
says_iff f g s = record { is = λ e. f (s.is e); isnt = λ e q. s.isnt e (g q) }
