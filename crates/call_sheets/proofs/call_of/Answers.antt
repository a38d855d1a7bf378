-- `call_sheets::call_of` meets its contract: each sheet is tried in the definition's order.
use mathlib.Core.Path.{sym, ◌∙◌}
use Rattle.fields.proofs.Pick.{hit, skip}
use Rattle.call_sheets.proofs.call_of.Goals as goal

pub returns-then-eq : goal.returns-then-eq
returns-then-eq c =
    sym (hit (sym (rw c.as_slice.ensures at c.eq.ensures) ∙ c.if-eq.true) _ _)

pub returns-then-eq-2 : goal.returns-then-eq-2
returns-then-eq-2 c =
    sym (skip (sym (rw c.as_slice.ensures at c.eq.ensures) ∙ c.if-eq.false) _ _ _
    (hit (sym (rw c.as_slice-2.ensures at c.eq-2.ensures) ∙ c.if-eq-2.true) _ _))

pub returns-then-eq-3 : goal.returns-then-eq-3
returns-then-eq-3 c =
    sym (skip (sym (rw c.as_slice.ensures at c.eq.ensures) ∙ c.if-eq.false) _ _ _
    (skip (sym (rw c.as_slice-2.ensures at c.eq-2.ensures) ∙ c.if-eq-2.false) _ _ _
    (hit (sym (rw c.as_slice-3.ensures at c.eq-3.ensures) ∙ c.if-eq-3.true) _ _)))

pub returns-then-eq-4 : goal.returns-then-eq-4
returns-then-eq-4 c =
    sym (skip (sym (rw c.as_slice.ensures at c.eq.ensures) ∙ c.if-eq.false) _ _ _
    (skip (sym (rw c.as_slice-2.ensures at c.eq-2.ensures) ∙ c.if-eq-2.false) _ _ _
    (skip (sym (rw c.as_slice-3.ensures at c.eq-3.ensures) ∙ c.if-eq-3.false) _ _ _
    (hit (sym (rw c.as_slice-4.ensures at c.eq-4.ensures) ∙ c.if-eq-4.true) _ _))))

pub returns-then-eq-5 : goal.returns-then-eq-5
returns-then-eq-5 c =
    sym (skip (sym (rw c.as_slice.ensures at c.eq.ensures) ∙ c.if-eq.false) _ _ _
    (skip (sym (rw c.as_slice-2.ensures at c.eq-2.ensures) ∙ c.if-eq-2.false) _ _ _
    (skip (sym (rw c.as_slice-3.ensures at c.eq-3.ensures) ∙ c.if-eq-3.false) _ _ _
    (skip (sym (rw c.as_slice-4.ensures at c.eq-4.ensures) ∙ c.if-eq-4.false) _ _ _
    (hit (sym (rw c.as_slice-5.ensures at c.eq-5.ensures) ∙ c.if-eq-5.true) _ _)))))

pub returns-then-eq-6 : goal.returns-then-eq-6
returns-then-eq-6 c =
    sym (skip (sym (rw c.as_slice.ensures at c.eq.ensures) ∙ c.if-eq.false) _ _ _
    (skip (sym (rw c.as_slice-2.ensures at c.eq-2.ensures) ∙ c.if-eq-2.false) _ _ _
    (skip (sym (rw c.as_slice-3.ensures at c.eq-3.ensures) ∙ c.if-eq-3.false) _ _ _
    (skip (sym (rw c.as_slice-4.ensures at c.eq-4.ensures) ∙ c.if-eq-4.false) _ _ _
    (skip (sym (rw c.as_slice-5.ensures at c.eq-5.ensures) ∙ c.if-eq-5.false) _ _ _
    (hit (sym (rw c.as_slice-6.ensures at c.eq-6.ensures) ∙ c.if-eq-6.true) _ _))))))

pub returns : goal.returns
returns c =
    sym (skip (sym (rw c.as_slice.ensures at c.eq.ensures) ∙ c.if-eq.false) _ _ _
    (skip (sym (rw c.as_slice-2.ensures at c.eq-2.ensures) ∙ c.if-eq-2.false) _ _ _
    (skip (sym (rw c.as_slice-3.ensures at c.eq-3.ensures) ∙ c.if-eq-3.false) _ _ _
    (skip (sym (rw c.as_slice-4.ensures at c.eq-4.ensures) ∙ c.if-eq-4.false) _ _ _
    (skip (sym (rw c.as_slice-5.ensures at c.eq-5.ensures) ∙ c.if-eq-5.false) _ _ _
    (skip (sym (rw c.as_slice-6.ensures at c.eq-6.ensures) ∙ c.if-eq-6.false) _ _ _
    (sym c.numbered_call.ensures)))))))
