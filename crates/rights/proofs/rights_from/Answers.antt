use native.Mathlib.Omega.{arith}
use Rattle.sheets.proofs.Loop.{line_in}
use Rattle.rights.proofs.Lines.{on_start, on_took, on_less, on_more, on_stop}
use Rattle.rights.proofs.Lines.{on_end}
use Rattle.rights.proofs.rights_from.Goals as goal

pub loop-r-init : goal.loop-r-init
loop-r-init c = on_start _ _ _ c.requires.1

pub line-c-requires : goal.line-c-requires
line-c-requires c = c.loop-r.invariant.low

pub right_step-requires : goal.right_step-requires
right_step-requires c = let i = line_in _ _ c.loop-r.invariant.low _ c.line-c.ensures in
    (i.0, i.1)

pub with_right-sees-requires : goal.with_right-sees-requires
with_right-sees-requires c = let t = (on_took c.loop-r.invariant c.line-c.ensures
    (rw c.in-Ok-Some.field-0-is at c.in-Ok-Some.ensures)).1 in (t.rises, t.small)

pub with_change-changes-requires : goal.with_change-changes-requires
with_change-changes-requires c = let t = (on_took c.loop-r.invariant c.line-c.ensures
    (rw c.in-Ok-Some.field-0-is at c.in-Ok-Some.ensures)).1 in (t.rises, t.small)

pub overflow_add-n : goal.overflow_add-n
overflow_add-n c = omega (
  arith,
  c.loop-r.invariant.count,
  c.loop-r.invariant.low,
  c.requires.0,
  c.well_formed,
)

pub overflow_add-at : goal.overflow_add-at
overflow_add-at c = omega (
  arith,
  (on_took c.loop-r.invariant c.line-c.ensures
      (rw c.in-Ok-Some.field-0-is at c.in-Ok-Some.ensures)).0,
)

pub loop-r-smaller : goal.loop-r-smaller
loop-r-smaller c =
    on_less c.loop-r.invariant c.line-c.ensures
    (rw c.in-Ok-Some.field-0-is at c.in-Ok-Some.ensures)

pub loop-r-preserved : goal.loop-r-preserved
loop-r-preserved c =
    on_more c.loop-r.invariant c.line-c.ensures
    (rw c.in-Ok-Some.field-0-is at c.in-Ok-Some.ensures) c.with_right-sees.ensures
    c.with_change-changes.ensures

pub overflow_add-result : goal.overflow_add-result
overflow_add-result c = omega (
  arith,
  c.loop-r.invariant.count,
  c.loop-r.invariant.low,
  c.requires.0,
  c.well_formed,
)

pub returns-in-Err : goal.returns-in-Err
returns-in-Err c =
    record { is = on_stop c.loop-r.invariant c.line-c.ensures c.in-Err.ensures }

pub returns-in-Ok-None : goal.returns-in-Ok-None
returns-in-Ok-None c = record {
  rights = c.loop-r.invariant.rights;
  is = on_end c.loop-r.invariant c.line-c.ensures
      (rw c.in-Ok-None.field-0-is at c.in-Ok-None.ensures);
  held = c.loop-r.invariant.holds;
}
