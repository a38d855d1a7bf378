use mathlib.Core.Path.{refl, ap}
use native.Mathlib.Omega.{arith}
use borrow.Author.Rules.{rules}
use lib.Dec.{lit≤}
use Rattle.sheets.proofs.Loop.{line_in, count, took, moved, turned, stopped, ended}
use Rattle.range_sheets.specs.RangeSheets.{few_choices}
use Rattle.range_sheets.proofs.Accepted.{ranges_ended}
use Rattle.fields.specs.Cursors.{pieces_from}
use Rattle.range_sheets.proofs.ranges_from.Goals as goal

pub loop-t-init : goal.loop-t-init
loop-t-init c =
    record { low = c.requires; few = lit≤ tt; long = search rules; same = refl }

pub line-c-requires : goal.line-c-requires
line-c-requires c = c.loop-t.invariant.low

pub range_step-requires : goal.range_step-requires
range_step-requires c =
    (let i = line_in _ _ c.loop-t.invariant.low _ c.line-c.ensures in i)

pub offset_bounds-tokens-n : goal.offset_bounds-tokens-n
offset_bounds-tokens-n c =
    omega (
      arith,
      (took c.loop-t.invariant c.line-c.ensures
          (rw c.in-Ok-Some.field-0-is at c.in-Ok-Some.ensures)).0,
    )

pub bounds-tokens-n : goal.bounds-tokens-n
bounds-tokens-n c = (took c.loop-t.invariant c.line-c.ensures
    (rw c.in-Ok-Some.field-0-is at c.in-Ok-Some.ensures)).0

pub overflow_add-n : goal.overflow_add-n
overflow_add-n c = omega (
  arith,
  (took c.loop-t.invariant c.line-c.ensures
      (rw c.in-Ok-Some.field-0-is at c.in-Ok-Some.ensures)).0,
)

pub overflow_add-at : goal.overflow_add-at
overflow_add-at c = omega (
  arith,
  (took c.loop-t.invariant c.line-c.ensures
      (rw c.in-Ok-Some.field-0-is at c.in-Ok-Some.ensures)).1,
)

pub loop-t-smaller : goal.loop-t-smaller
loop-t-smaller c =
    moved c.loop-t.invariant c.line-c.ensures
    (rw c.in-Ok-Some.field-0-is at c.in-Ok-Some.ensures)

pub loop-t-preserved : goal.loop-t-preserved
loop-t-preserved c =
    turned c.loop-t.invariant c.line-c.ensures
    (rw c.in-Ok-Some.field-0-is at c.in-Ok-Some.ensures)

pub returns-in-Err : goal.returns-in-Err
returns-in-Err c = record {
  is = ap few_choices (stopped c.loop-t.invariant c.line-c.ensures c.in-Err.ensures);
}

pub finished-requires : goal.finished-requires
finished-requires c =
    let T = c.loop-t.invariant in
    record {
      few = T.few;
      whole = count T;
      ended = ranges_ended
          (pieces_from 10 c.args.s.now c.args.start) _
          (ended T c.line-c.ensures (rw c.in-Ok-None.field-0-is at c.in-Ok-None.ensures));
    }

pub returns-in-Ok-None : goal.returns-in-Ok-None
returns-in-Ok-None c =
    let T = c.loop-t.invariant in
    rw (ended T c.line-c.ensures (rw c.in-Ok-None.field-0-is at c.in-Ok-None.ensures))
    c.finished.ensures
