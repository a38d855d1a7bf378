use Prim.Native.Nat.{ℕ, ◌*◌}
use mathlib.Core.Path.{ap}
use native.Mathlib.Omega.{arith}
use Rattle.tried_count.proofs.Columns.{growing_none, growing_more, growing_end}
use Rattle.tried_count.proofs.Columns.{product_small}
use Rattle.tried_count.proofs.grown.Goals as goal

pub loop-p-init : goal.loop-p-init
loop-p-init c = (omega arith, growing_none _ _ _)

pub overflow_mul-next : goal.overflow_mul-next
overflow_mul-next c =
    omega (
      arith,
      ap (λ (x : ℕ). c.args.t * x) c.ways_at.ensures,
      product_small c.args.t
          c.args.row c.args.n 2 c.loop-p.p c.requires.2 c.requires.0
          (omega arith) c.requires.1,
    )

pub loop-p-preserved : goal.loop-p-preserved
loop-p-preserved c = (
  omega arith,
  growing_more _ _ _ _ _ _ (omega arith)
      (ap (λ (x : ℕ). c.args.t * x) c.ways_at.ensures) c.loop-p.invariant.1,
)

pub returns : goal.returns
returns c = growing_end _ _ _ _ _ (omega arith) c.loop-p.invariant.1
