-- `tried_count::whole` meets its contract.
use Prim.Native.Nat.{ℕ, ◌*◌}
use mathlib.Core.Path.{ap}
use native.Mathlib.Omega.{arith}
use Rattle.tried_count.proofs.Columns.{product_small}
use Rattle.tried_count.proofs.Ranking.{whole_is}
use Rattle.tried_count.proofs.whole.Goals as goal

pub ways_at-requires : goal.ways_at-requires
ways_at-requires c = (c.requires.high, omega arith, c.row_of-row.ensures.low)

pub overflow_mul-result : goal.overflow_mul-result
overflow_mul-result c =
    omega (
      arith,
      ap (λ (x : ℕ). c.args.t * x) c.ways_at.ensures,
      product_small c.args.t
          c.row_of-row.result c.args.n 0 0 c.row_of-row.ensures.low
          c.requires.high (omega arith) c.requires.few,
    )

pub returns : goal.returns
returns c = whole_is _ _ _ _ c.row_of-row.ensures c.ways_at.ensures
