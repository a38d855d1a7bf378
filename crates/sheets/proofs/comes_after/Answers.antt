-- `sheets::comes_after` meets its contract: the tests are the definition's, in its order.
use borrow.Author.Tests.{eq-eqb, ne_eqb, lt-ltb, le-ltb, le-leb, lt-leb}
use mathlib.Core.Path.{◌≡◌, refl, sym}
use mathlib.Core.Bool.{Bool, true, false, ◌||◌, ◌&&◌}
use Prim.Native.Nat.{ℕ, ◌≤◌, ◌<◌}
use lib.Dec.{eqb, ltb, leb}
use native.Mathlib.Omega.{arith}
use Rattle.sets.specs.Says.{Says}
use Rattle.sheets.proofs.comes_after.Goals as goal

-- what says that a number is at most another is the test
at_most : (b : Bool) (m n : ℕ) → Says b (m ≤ n) → b ≡ leb m n
at_most true m n s = sym (le-leb m n (s.is refl))
at_most false m n s = sym (lt-leb m n (omega (arith, s.isnt refl)))

-- an earlier line does not come after
earlier : (a b : ℕ) (x : Bool) → b < a → false ≡ (ltb a b || (eqb a b && x))
earlier a b x h =
    let n : a ≡ b → ⊥ = λ e. omega (arith, h, e) in
    simp (le-ltb a b (omega (arith, h)), ne_eqb a b n)

-- on one line the columns decide
beside : (a b : ℕ) (x y : Bool) → (a < b → ⊥) → (b < a → ⊥) → x ≡ y
    → x ≡ (ltb a b || (eqb a b && y))
beside a b x y m n e = simp (e, le-ltb a b (omega (arith, m)), eq-eqb a b (omega (arith, m, n)))

pub returns-then-line_before : goal.returns-then-line_before
returns-then-line_before c = simp (lt-ltb _ _ (c.line_before.ensures.is c.if-line_before.true))

pub returns-then-line_before-2 : goal.returns-then-line_before-2
returns-then-line_before-2 c = earlier _ _ _ (c.line_before-2.ensures.is c.if-line_before-2.true)

pub returns : goal.returns
returns c =
    beside _ _ _ _ (c.line_before.ensures.isnt c.if-line_before.false)
    (c.line_before-2.ensures.isnt c.if-line_before-2.false)
    (at_most _ _ _ c.leaves_free.ensures)
