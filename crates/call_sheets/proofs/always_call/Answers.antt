-- `call_sheets::always_call` meets its contract: each sheet is tried in the definition's order.
use mathlib.Core.Path.{sym, ◌∙◌}
use Rattle.fields.proofs.Pick.{hit, skip, miss}
use Rattle.call_sheets.proofs.always_call.Goals as goal

pub returns-then-eq : goal.returns-then-eq
returns-then-eq c = sym (hit (sym (rw c.as_slice.ensures at c.eq.ensures) ∙ c.if-eq.true) _ _)

pub returns-then-eq-2 : goal.returns-then-eq-2
returns-then-eq-2 c =
    sym (skip (sym (rw c.as_slice.ensures at c.eq.ensures) ∙ c.if-eq.false) _ _ _
    (hit (sym (rw c.as_slice-2.ensures at c.eq-2.ensures) ∙ c.if-eq-2.true) _ _))

pub returns : goal.returns
returns c =
    sym (skip (sym (rw c.as_slice.ensures at c.eq.ensures) ∙ c.if-eq.false) _ _ _
    (miss (sym (rw c.as_slice-2.ensures at c.eq-2.ensures) ∙ c.if-eq-2.false) _ _))
