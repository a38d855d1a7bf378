-- `scanning::digits_at` meets its contract: the loop goes from digit to digit, and each way out is
-- a place where no number goes on.
use mathlib.Core.Path.{◌≡◌, refl, sym, subst, ◌∙◌}
use Prim.Native.Nat.{ℕ}
use lib.ListN.{length}
use Rattle.scanning.specs.Scanned.{DigitsAt}
use native.Mathlib.Omega.{arith}
use Rattle.scanning.proofs.Places.{reached_more, stop_end, stop_other, stop_most, stop_zero}
use Rattle.scanning.proofs.digits_at.Goals as goal

pub returns-then-not-is_ascii_digit : goal.returns-then-not-is_ascii_digit
returns-then-not-is_ascii_digit c =
    let a = c.args in
    stop_other a.s.now a.at a.most c.loop-i.invariant c.loop-i-test.true
    (sym c.is_ascii_digit.ensures.value ∙ c.if-not-is_ascii_digit.true)

pub returns-then-most-w : goal.returns-then-most-w
returns-then-most-w c =
    let a = c.args in
    let x = c.loop-i.invariant in
    stop_most a.s.now a.at a.most x c.loop-i-test.true
    c.if-not-is_ascii_digit.ensures.cases.0 c.if-not-is_ascii_digit.ensures.cases.1 c.if-most-w.true

pub returns-then-w-eq0 : goal.returns-then-w-eq0
returns-then-w-eq0 c =
    let a = c.args in
    let x = c.loop-i.invariant in
    stop_zero a.s.now a.at a.most x c.loop-i-test.true c.if-not-is_ascii_digit.ensures.cases.0
    (omega arith)

pub loop-i-preserved : goal.loop-i-preserved
loop-i-preserved c =
    let a = c.args in
    let x = c.loop-i.invariant in
    reached_more a.s.now a.at a.most _ refl x
    c.loop-i-test.true
    c.if-not-is_ascii_digit.ensures.cases.0 c.if-not-is_ascii_digit.ensures.cases.1
    c.if-most-w.false (omega arith)

pub returns : goal.returns
returns c =
    let a = c.args in
    let e : c.loop-i.i ≡ length a.s.now = omega arith in
    subst (λ (i : ℕ). DigitsAt a.s.now a.at a.most (record { value = c.loop-i.v; next = i })) e
    (stop_end a.s.now a.at a.most c.loop-i.invariant (omega arith))
