use mathlib.Core.Path.{◌≡◌, sym, ap, ◌∙◌}
use Prim.Native.Nat.{ℕ}
use native.Mathlib.Omega.{arith}
use Rattle.grammar.specs.Content.{rules_of}
use Rattle.lengths.specs.declared.Book.{Book}
use Rattle.grammar.specs.Trees.{Rules}
use Rattle.sheets.specs.Items.{Reading, refused}
use Rattle.sheets.specs.RuleSheets.{finish}
use Rattle.sheets.proofs.Loop.{line_in, count, took, moved, stopped, ended}
use Rattle.sheets.proofs.Accepted.{rules_kept}
use Rattle.sheets.proofs.Booking.{reads_none, reads_turn}
use Rattle.fields.specs.Cursors.{pieces_from}
use Rattle.sheets.proofs.rules_from.Goals as goal

pub loop-at-init : goal.loop-at-init
loop-at-init c = reads_none c.no_book-book.ensures.0 c.no_book-book.ensures.1 c.requires

pub line-c-requires : goal.line-c-requires
line-c-requires c = c.loop-at.invariant.filled.low

pub add_line-requires : goal.add_line-requires
add_line-requires c =
    let T = c.loop-at.invariant in
    let i = line_in _ _ T.filled.low _ c.line-c.ensures in
    (i.0, i.1, T.booked)

pub overflow_add-at : goal.overflow_add-at
overflow_add-at c =
    omega (
      arith,
      (took c.loop-at.invariant.filled c.line-c.ensures
          (rw c.in-Ok-Some.field-0-is at c.in-Ok-Some.ensures.step_value)).1,
    )

pub loop-at-smaller : goal.loop-at-smaller
loop-at-smaller c =
    moved c.loop-at.invariant.filled c.line-c.ensures
    (rw c.in-Ok-Some.field-0-is at c.in-Ok-Some.ensures.step_value)

pub loop-at-preserved : goal.loop-at-preserved
loop-at-preserved c =
    reads_turn c.loop-at.invariant c.line-c.ensures
    (rw c.in-Ok-Some.field-0-is at c.in-Ok-Some.ensures.step_value)
    (rw c.in-Ok-Some.field-0-is at c.in-Ok-Some.ensures.adds)

pub overflow_add-line : goal.overflow_add-line
overflow_add-line c =
    omega (
      arith,
      ap (λ (b : Book). b.grammar.count) c.in-Err.ensures.adds,
      c.loop-at.invariant.filled.few,
    )

-- a refusal at a line is the sheet's
at_line : (x : Reading Rules) (f l m : ℕ) → x ≡ refused f l → m ≡ l → finish x ≡ refused f m
at_line x f l m e h = ap finish e ∙ ap (λ (k : ℕ). refused f k) (sym h)

pub returns-in-Err : goal.returns-in-Err
returns-in-Err c = record {
  is = at_line _ _ _ _
      (stopped c.loop-at.invariant.filled c.line-c.ensures c.in-Err.ensures.step_value)
      (omega (arith, ap (λ (b : Book). b.grammar.count) c.in-Err.ensures.adds));
}

pub finished-requires : goal.finished-requires
finished-requires c =
    let T = c.loop-at.invariant in
    let a = c.args in
    let e = ended T.filled c.line-c.ensures
    (rw c.in-Ok-None.field-0-is at c.in-Ok-None.ensures.step_value) in
    let k = rules_kept (pieces_from 10 a.s.now a.start) _ e in
    rw (rw c.in-Ok-None.field-0-is at c.in-Ok-None.ensures.adds) (
      record {
        few = T.filled.few;
        whole = count T.filled;
        small = k.small;
        distinct = k.distinct;
      },
      T.booked.exact,
    )

pub returns-in-Ok-None : goal.returns-in-Ok-None
returns-in-Ok-None c =
    let e = ap (λ (b : Book). rules_of b.grammar)
    (rw c.in-Ok-None.field-0-is at c.in-Ok-None.ensures.adds) in
    rw (
      ended c.loop-at.invariant.filled c.line-c.ensures
          (rw c.in-Ok-None.field-0-is at c.in-Ok-None.ensures.step_value),
      ← e,
    ) c.finished.ensures
