use native.Mathlib.Omega.{arith}
use Rattle.heights.proofs.FallLaws.{inside}
use Rattle.heights.proofs.cell.Goals as goal

pub overflow_add-result : goal.overflow_add-result
overflow_add-result c = let a = c.args in
    omega (
      arith,
      c.pair_at-p.ensures,
      c.wide.ensures,
      inside a.n a.start a.len
          (omega arith) (omega arith),
    )

pub returns : goal.returns
returns c = let a = c.args in
    omega (
      arith,
      c.pair_at-p.ensures,
      c.wide.ensures,
      inside a.n a.start a.len
          (omega arith) (omega arith),
    )
