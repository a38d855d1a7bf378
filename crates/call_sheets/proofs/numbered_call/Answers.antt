-- `call_sheets::numbered_call` meets its contract: each beginning is tried in the definition's
-- order.
use mathlib.Core.Path.{◌≡◌, sym, ap, ◌∙◌}
use mathlib.Core.List.{List}
use Prim.Native.Nat.{ℕ, ◌+◌, ◌-◌, ◌≤◌}
use native.Mathlib.Omega.{arith}
use lib.ListN.{length, take, drop}
use Rattle.fields.specs.Pieces.{pieces}
use Rattle.fields.proofs.Pick.{into, skip}
use Rattle.fields.proofs.Lines.{fields_of}
use Rattle.call_sheets.specs.CallSheets.{bound_start, show_start, share_start, change_start}
use Rattle.call_sheets.specs.CallSheets.{share_call_of, change_call_of}
use Rattle.call_sheets.proofs.Laws.{begins_long}
use Rattle.fields.specs.Cursors.{fields_left}
use Rattle.call_sheets.proofs.numbered_call.Goals as goal

-- the fields from a place to the last byte
fields_are : (n : ℕ) (s : List ℕ) → n + 1 ≤ length s
    → fields_left s (record { at = n; end = length s - 1 })
    ≡ pieces 32 (take (length s - 1 - n) (drop n s))
fields_are n s h = fields_of s (record { at = n; end = length s - 1 }) (omega arith) (omega arith)

pub bound_call-requires : goal.bound_call-requires
bound_call-requires c =
    (begins_long bound_start c.args.s.now (sym c.begins.ensures ∙ c.if-begins.true))

pub returns-then-begins : goal.returns-then-begins
returns-then-begins c =
    sym (into (sym c.begins.ensures ∙ c.if-begins.true) _ _ _ (sym c.bound_call.ensures))

pub show_call-requires : goal.show_call-requires
show_call-requires c = (begins_long show_start
    c.args.s.now (sym c.begins-2.ensures ∙ c.if-begins-2.true))

pub returns-then-begins-2 : goal.returns-then-begins-2
returns-then-begins-2 c =
    sym (skip (sym c.begins.ensures ∙ c.if-begins.false) _ _ _
    (into (sym c.begins-2.ensures ∙ c.if-begins-2.true) _ _ _ (sym c.show_call.ensures)))

pub overflow_sub-end : goal.overflow_sub-end
overflow_sub-end c = omega (
  arith,
  (begins_long share_start
      c.args.s.now (sym c.begins-3.ensures ∙ c.if-begins-3.true)),
)

pub returns-then-begins-3 : goal.returns-then-begins-3
returns-then-begins-3 c =
    let s = c.args.s.now in
    let call =
    sym (c.share_call.ensures ∙ ap share_call_of (fields_are 30 s (begins_long share_start
    c.args.s.now (sym c.begins-3.ensures ∙ c.if-begins-3.true)))) in
    sym (skip (sym c.begins.ensures ∙ c.if-begins.false) _ _ _
    (skip (sym c.begins-2.ensures ∙ c.if-begins-2.false) _ _ _
    (into (sym c.begins-3.ensures ∙ c.if-begins-3.true) _ _ _ call)))

pub overflow_sub-end-then-begins-4 : goal.overflow_sub-end-then-begins-4
overflow_sub-end-then-begins-4 c = omega (
  arith,
  (begins_long change_start
      c.args.s.now (sym c.begins-4.ensures ∙ c.if-begins-4.true)),
)

pub change_call-requires : goal.change_call-requires
change_call-requires c = omega (
  arith,
  (begins_long change_start
      c.args.s.now (sym c.begins-4.ensures ∙ c.if-begins-4.true)),
)

pub returns-then-begins-4 : goal.returns-then-begins-4
returns-then-begins-4 c =
    let s = c.args.s.now in
    let call = sym (c.change_call.ensures ∙ ap (change_call_of (length s))
    (fields_are 26 s (begins_long change_start
    c.args.s.now (sym c.begins-4.ensures ∙ c.if-begins-4.true)))) in
    sym (skip (sym c.begins.ensures ∙ c.if-begins.false) _ _ _
    (skip (sym c.begins-2.ensures ∙ c.if-begins-2.false) _ _ _
    (skip (sym c.begins-3.ensures ∙ c.if-begins-3.false) _ _ _
    (into (sym c.begins-4.ensures ∙ c.if-begins-4.true) _ _ _ call))))

pub returns : goal.returns
returns c =
    sym (skip (sym c.begins.ensures ∙ c.if-begins.false) _ _ _
    (skip (sym c.begins-2.ensures ∙ c.if-begins-2.false) _ _ _
    (skip (sym c.begins-3.ensures ∙ c.if-begins-3.false) _ _ _
    (skip (sym c.begins-4.ensures ∙ c.if-begins-4.false) _ _ _ (sym c.always_call.ensures)))))
