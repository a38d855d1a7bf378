-- `lines_emit` meets its contract.
use native.Mathlib.Omega.{arith}
use Rattle.sheets.proofs.Loop.{line_in, line_less}
use Rattle.clause_sheets.proofs.Passes.{emit_start, emit_on, emit_end}
use Rattle.clause_sheets.proofs.lines_emit.Goals as goal

pub loop-at-init : goal.loop-at-init
loop-at-init c = emit_start _ _ _ c.requires

pub line-c-requires : goal.line-c-requires
line-c-requires c = c.loop-at.invariant.low

pub line_emit-out-requires : goal.line_emit-out-requires
line_emit-out-requires c =
    line_in _ _ c.loop-at.invariant.low _ c.line-c.ensures

pub overflow_add-at : goal.overflow_add-at
overflow_add-at c = omega (arith, c.if-end-s.true)

pub loop-at-smaller : goal.loop-at-smaller
loop-at-smaller c = let I = c.loop-at.invariant in
    omega (
      arith,
      line_less _ _ I.low _ c.line-c.ensures,
      c.if-end-s.true,
    )

pub loop-at-preserved : goal.loop-at-preserved
loop-at-preserved c = emit_on c.loop-at.invariant
    c.line-c.ensures _
    c.if-end-s.true c.line_emit-out.ensures

pub returns-in-loop-at : goal.returns-in-loop-at
returns-in-loop-at c = emit_end c.loop-at.invariant c.line-c.ensures c.if-end-s.false
