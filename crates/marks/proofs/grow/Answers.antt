-- A token on a later line is compared; any other leaves the value.
use mathlib.Core.Path.{refl}
use native.Mathlib.Omega.{arith}
use Rattle.marks.proofs.grow.Goals as goal

pub returns-then-line_before : goal.returns-then-line_before
returns-then-line_before c = record {
  later = λ k. c.with_column.ensures;
  other = λ k. absurd
      (omega (arith, k, c.line_before.ensures.is c.if-line_before.true));
}

pub returns-else-line_before : goal.returns-else-line_before
returns-else-line_before c = record {
  later = λ k. absurd (c.line_before.ensures.isnt c.if-line_before.false k);
  other = λ k. refl;
}
