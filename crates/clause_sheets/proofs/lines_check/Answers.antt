-- `lines_check` meets its contract.
use mathlib.Core.Path.{sym, ◌∙◌}
use native.Mathlib.Omega.{arith}
use Rattle.sheets.proofs.Loop.{line_in, line_less}
use Rattle.clause_sheets.proofs.Passes.{pass_start, pass_good, pass_bad}
use Rattle.clause_sheets.proofs.Passes.{pass_open, pass_end}
use Rattle.clause_sheets.proofs.lines_check.Goals as goal

pub loop-c-init : goal.loop-c-init
loop-c-init c = pass_start _ _ c.requires

pub line-c-requires : goal.line-c-requires
line-c-requires c = c.loop-c.invariant.low

pub line_check-requires : goal.line_check-requires
line_check-requires c =
    line_in _ _ c.loop-c.invariant.low _ c.line-c.ensures

pub overflow_add-n : goal.overflow_add-n
overflow_add-n c = let I = c.loop-c.invariant in
    omega (arith, I.few, I.low)

pub overflow_add-at : goal.overflow_add-at
overflow_add-at c = omega (arith, c.if-end-s.true)

pub loop-c-smaller : goal.loop-c-smaller
loop-c-smaller c =
    let I = c.loop-c.invariant in
    omega (
      arith,
      line_less _ _ I.low _
          c.line-c.ensures,
      c.if-end-s.true,
    )

pub loop-c-preserved : goal.loop-c-preserved
loop-c-preserved c =
    pass_good c.loop-c.invariant
    c.line-c.ensures _ _
    c.if-end-s.true
    (sym c.in-Ok.is ∙ c.line_check.ensures)
    c.max-past.ensures

pub overflow_add-result : goal.overflow_add-result
overflow_add-result c = let I = c.loop-c.invariant in
    omega (arith, I.few, I.low)

pub returns-in-Err : goal.returns-in-Err
returns-in-Err c =
    pass_bad c.loop-c.invariant
    c.line-c.ensures _
    c.if-end-s.true
    (sym c.in-Err.is ∙ c.line_check.ensures)

pub returns-then-c-end : goal.returns-then-c-end
returns-then-c-end c = pass_end c.loop-c.invariant
    c.line-c.ensures c.if-end-s.false c.if-c-end.true

pub overflow_add-result-in-loop-c : goal.overflow_add-result-in-loop-c
overflow_add-result-in-loop-c c = let I = c.loop-c.invariant in omega (arith, I.few, I.low)

pub returns-in-loop-c : goal.returns-in-loop-c
returns-in-loop-c c = pass_open c.loop-c.invariant
    c.line-c.ensures c.if-end-s.false c.if-c-end.false
